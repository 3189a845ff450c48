-- What is asked of the outside and answered, without where its bytes lie (this profile).
use Rattle.std.specs.Prelude.{◌≡◌, ℕ, Bool, List, ◌∷◌, Option, Some, None}
use Rattle.effects.specs.declared.vocabulary.Slot.{Slot}
use Rattle.effects.specs.declared.vocabulary.Growth.{Growth}
use Rattle.effects.specs.declared.vocabulary.Peer.{Peer}
use Rattle.effects.specs.declared.vocabulary.Place.{Place as TextPlace}
use Rattle.effects.specs.declared.vocabulary.Place.TheVariants as place
use Rattle.effects.specs.declared.vocabulary.Effect.{Effect}
use Rattle.effects.specs.declared.vocabulary.Effect.TheVariants as effect
use Rattle.effects.specs.declared.vocabulary.Cause.{Cause}
use Rattle.effects.specs.declared.vocabulary.Answer.{Answer}
use Rattle.effects.specs.declared.vocabulary.Answer.TheVariants as answer
use Rattle.effects.specs.declared.came.Kind.{Kind}
use Rattle.effects.specs.declared.came.Kind.TheVariants as kind

-- where the bytes of a file come from
pub data Where : Type 0 where
  Named : List ℕ → Where
  Input : Where
  Nowhere : Where

-- what is asked
pub data Ask : Type 0 where
  Open : Slot → Where → Ask
  Read : Slot → Ask
  Byte : Ask
  Exists : List ℕ → Ask
  Look : List ℕ → Ask
  Place : List ℕ → Ask
  Node : List ℕ → Ask
  Hold : Growth → List ℕ → Ask
  Fill : Growth → List ℕ → ℕ → ℕ → Ask
  Make : Growth → (name beside text : List ℕ) → Ask
  Discard : Growth → Ask
  SetAside : Growth → (old : List ℕ) → Ask
  Begin : Growth → Ask
  Append : Growth → List ℕ → Ask
  Keep : Growth → List ℕ → Ask
  Stands : Growth → ℕ → Ask
  Replace : (name beside text : List ℕ) → Ask
  Names : List ℕ → Ask
  Create : Slot → List ℕ → Ask
  Save : Slot → List ℕ → Ask
  Settle : Slot → Ask
  Remove : List ℕ → Ask
  Extend : List ℕ → Ask
  Add : List ℕ → Ask
  Stamp : Ask
  Now : Ask
  Sleep : ℕ → Ask
  Listen : List ℕ → ℕ → Bool → Ask
  Accept : Option ℕ → Option ℕ → Ask
  Connect : List ℕ → ℕ → Option ℕ → Ask
  Limit : Peer → Option ℕ → Option ℕ → Ask
  Join : Ask
  Wait : Option ℕ → Ask
  Receive : Peer → Ask
  Send : Peer → List ℕ → Ask
  Pass : Peer → List ℕ → Ask
  Close : Peer → Ask
  Leave : Ask
  Print : List ℕ → Ask
  Say : List ℕ → Ask
  Exit : ℕ → Ask

-- what came of it
pub data Reply : Type 0 where
  Done : Reply
  Bytes : List ℕ → Reply
  End : Reply
  Missing : Reply
  Found : Reply
  Nothing : Reply
  At : ℕ → Reply
  Took : ℕ → Reply
  Failed : Cause → Reply
  Short : Reply

abbrev pub the_place : TextPlace → Where
the_place (place.Named name) = Named name.now
the_place place.Input = Input
the_place place.Nothing = Nowhere

abbrev pub the_ask : Effect → Ask
the_ask (effect.Open slot p) = Open slot (the_place p)
the_ask (effect.Read slot) = Read slot
the_ask effect.Byte = Byte
the_ask (effect.Exists name) = Exists name.now
the_ask (effect.Look name) = Look name.now
the_ask (effect.Place name) = Place name.now
the_ask (effect.Node name) = Node name.now
the_ask (effect.Hold growth name) = Hold growth name.now
the_ask (effect.Fill growth text held length) = Fill growth text.now held length
the_ask (effect.Make growth name beside text) = Make growth name.now beside.now text.now
the_ask (effect.Discard growth) = Discard growth
the_ask (effect.SetAside growth old) = SetAside growth old.now
the_ask (effect.Begin growth) = Begin growth
the_ask (effect.Append growth text) = Append growth text.now
the_ask (effect.Keep growth text) = Keep growth text.now
the_ask (effect.Stands growth length) = Stands growth length
the_ask (effect.Replace name beside text) = Replace name.now beside.now text.now
the_ask (effect.Names folder) = Names folder.now
the_ask (effect.Create slot name) = Create slot name.now
the_ask (effect.Save slot bytes) = Save slot bytes.now
the_ask (effect.Settle slot) = Settle slot
the_ask (effect.Remove name) = Remove name.now
the_ask (effect.Extend name) = Extend name.now
the_ask (effect.Add text) = Add text.now
the_ask effect.Stamp = Stamp
the_ask effect.Now = Now
the_ask (effect.Sleep ms) = Sleep ms
the_ask (effect.Listen address port is_polled) = Listen address.now port is_polled
the_ask (effect.Accept ms seconds) = Accept ms seconds
the_ask (effect.Connect host port seconds) = Connect host.now port seconds
the_ask (effect.Limit peer ms seconds) = Limit peer ms seconds
the_ask effect.Join = Join
the_ask (effect.Wait ms) = Wait ms
the_ask (effect.Receive peer) = Receive peer
the_ask (effect.Send peer bytes) = Send peer bytes.now
the_ask (effect.Pass peer bytes) = Pass peer bytes.now
the_ask (effect.Close peer) = Close peer
the_ask effect.Leave = Leave
the_ask (effect.Print bytes) = Print bytes.now
the_ask (effect.Say text) = Say text.now
the_ask (effect.Exit status) = Exit status

abbrev pub the_reply : Answer → Reply
the_reply answer.Done = Done
the_reply (answer.Bytes bytes) = Bytes bytes.now
the_reply answer.End = End
the_reply answer.Missing = Missing
the_reply answer.Found = Found
the_reply answer.Nothing = Nothing
the_reply (answer.At ms) = At ms
the_reply (answer.Took count) = Took count
the_reply (answer.Failed why) = Failed why
the_reply answer.Short = Short

abbrev pub came_of : Kind → List ℕ → Reply
came_of kind.Done bytes = Done
came_of kind.Bytes bytes = Bytes bytes
came_of kind.End bytes = End
came_of kind.Missing bytes = Missing
came_of kind.Found bytes = Found
came_of kind.Nothing bytes = Nothing
came_of (kind.At ms) bytes = At ms
came_of (kind.Took count) bytes = Took count
came_of (kind.Failed why) bytes = Failed why
came_of kind.Short bytes = Short

-- an effect that was asked for, and what came of it
abbrev pub Did : Type 0
Did = Ask × Reply

-- hands that report what they did carry an effect out
abbrev pub Carries : Option (List Did) → Option (List Did) → Ask → Reply → Type 0
Carries None new ask reply = new ≡ None
Carries (Some past) new ask reply = new ≡ Some ((ask, reply) ∷ past)
