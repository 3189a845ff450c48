-- The two methods of any handle, which is a pointer and the value that it owns there, if it holds one: `take` gives that value to `from_raw`, and `put` has what `into_raw` gives.
use Rattle.dme_c.proofs.Names.{[], ◌∙◌, ◌∷◌, ◌≡◌, ap, box_owns, chunk, dict, false≢true, ghosts, Goes-blank, held_at, IsSome, leaves, List, None, Option, passed, proved, refl, Some, sym}
use mathlib.Core.List.{map}
use mathlib.Core.Option.{some}
use seplogic.Ra.Ura.{Ura}
use base.Fraction.{full_share}
use base.Fml.{Lft, Fml, ftrue, flft, fsep}
use base.Logic.{ex, sep, emp, id⊢, via, mono_l, fst∗, never}
use mir.Inst.{key_of, args_of}
use mir.Raw.{raw as bare}
use mir.Syntax.{assign, block, Body, call, Callee, copy, dcons, deref, Dict, dnil, field, Fn, fn, fn₀, impl, local, method, mut, named, no_args, opd_unit, place, return, rv_opd, seq, Symbol, tcons, tnil, Ty, ty_ptr, ty_ref, ty_unit, value_local}
use mir.Val.{Val, vcons, vnil, vptr, vstruct, vunit}
use prog.Erase.{raw-raw}
use prog.Model.{Model}
use prog.Routine.{Env, ◌≼⁺◌}
use prog.Wired.{Code, Codes, Wired, node, and, end}
use contract.BorrowLft.{◌⊑◌}
use contract.Monad.{fact, fact_i}
use contract.Named.{wired_unfolds}
use contract.Running.{Running, tables, tables_of}
use types.ByLocal.{alloc_all, env, free_all, get, lands_as, lands_last, look_at, pass_all, sets, through}
use types.Kit.{‵, !, ◌$◌, ◌∵◌, ◌⊛◌, at_ret, await, by, done, drop, feq_i, feq_l, fjoin, fjoin3, fpack, frame, fsplit, fsplit3, group, join, keep, later, move, pick, qed, raw, rewrite, show, some as exists, split, split3, use0, use1}
use types.Logic.{Logic, sem}
use types.Part.{look_in, store_in, sub, whole}
use types.Run.{and_then, assigns, blocks, enter, exec, first, fld, load, no_more, of_opd, returns, stop, unit_lit}
use types.Tokens.{lft_new}
use denote.Builtin.{RefMutOf, unit}
use denote.Exit.{no, yes}
use denote.Laws.{shows}
use denote.Memory.{cell_at, lone, pointee}
use denote.Param.{arg, layout}
use denote.Param.Glue.{Met, signature as glue, spent}
use denote.Param.Laws.{Laws, Told, arg_laws}
use denote.Param.NoDrop.{glues}
use denote.RattleType.{RattleType, Valss, owns}
use denote.RawPtr.{Ptr, RawPtr, block_ptr, in_a_block, null_ptr, ptr_val}
use denote.Ref.{MutRef, mut_Tells, mut_vals}
use denote.Signature.{plain}
use denote.Steps.{closes, heard, nothing, only, opens, peeks}
use denote.Struct.Field.{RawPtr-field}
use denote.Struct.Laws.{RawPtr-laws}
use denote.Struct.Owning.{Owning, row, shape}
use denote.Struct.OwningLaws.{Tells-lowered}
use denote.Struct.Struct.{Struct, within}
use denote.Triple.Call.{calls_at, calls_at_last}
use denote.Triple.Clauses.{Clauses, Ended, Lasts, closing, lasts}
use denote.Triple.Spec.{Back as back, Meets, triple_of}
use denote.Triple.Table.{framed, run_framed, widened}
use denote.Triple.Walked.{Goes-dropped, Goes-ref, Stays, stay_dropped, stay_ref, walk_of}
use Rattle.std.specs.contracts.alloc.Global as G
use Rattle.std.proofs.alloc.Global.TheLaws as G'
use Rattle.std.specs.contracts.boxed.Box as box
use Rattle.std.proofs.boxed.Box.TheLaws as box'
use Rattle.std.specs.contracts.boxed.Box.from_raw as from
use Rattle.std.proofs.boxed.Box.from_raw.Met as from-met
use Rattle.std.proofs.boxed.Box.from_raw.Symbol as from-code
use Rattle.std.specs.contracts.boxed.Box.into_raw as into
use Rattle.std.proofs.boxed.Box.into_raw.Met as into-met
use Rattle.std.proofs.boxed.Box.into_raw.Symbol as into-code
use Rattle.std.proofs.impls.GlobalAllocator.allocate.Symbol as allocate
use Rattle.std.proofs.impls.GlobalAllocator.deallocate.Symbol as deallocate
use Rattle.std.proofs.impls.GlobalAllocator.grow.Symbol as grow
use Rattle.std.proofs.impls.GlobalAllocator.shrink.Symbol as shrink
use Rattle.dme_c.proofs.Destruct++none.drop.Symbol as none

-- the value of an option
there : {X : Type 0} → (o : Option X) → IsSome o → X
there (Some x) _ = x
there None p = absurd (false≢true p)

there_is : {X : Type 0} → (o : Option X) → (p : IsSome o) → o ≡ Some (there o p)
unfolding there
there_is (Some x) p = refl
there_is None p = absurd (false≢true p)

-- a value, as a call is passed it
abbrev as_arg : RattleType → RattleType
as_arg C = arg (bare (layout C)) no C

-- a handle's type, with the type of what it may hold: its pointer and its ghost field, a handle made of the two, and that what a box owns
-- does not depend on how a call is passed its value
pub record Handle : Type 2 where
  pub core : RattleType
  pub laws : Laws core
  pub within : (κ : Lft) → κ ⊑ core.lives
  pub type : Owning
  pub at : type.D → Ptr
  pub held : type.D → Option core.Denot
  pub make : Ptr → Option core.Denot → type.D
  pub made : (p : Ptr) (x : Option core.Denot) → (at (make p x) ≡ p) × (held (make p x) ≡ x)
  pub owns_is : (p : Ptr) (x : core.Denot) → box_owns chunk core p x ≡ box_owns chunk (as_arg core) p x

-- the allocator, as a call is passed it, and its drop
abbrev Z : RattleType
Z = as_arg G.the_row

abbrev Z_laws : Laws Z
Z_laws = arg_laws (bare (layout G.the_row)) no G.the_row G'.the_row_laws refl

abbrev no_drop : Dict
no_drop = impl ("dme_c::Destruct++none::drop" ∷ []) (tcons (layout Z) tnil) dnil

-- the code of its methods
abbrev memory : Codes
memory = and allocate.code (and deallocate.code (and grow.code (and shrink.code end)))

-- ---- the drop of a value without lifetimes, as `into_raw` is passed it
abbrev drops : Symbol → Dict
drops dropped = impl (dropped ∷ []) tnil dnil

abbrev drop_ended : RattleType → Ended
drop_ended C = record { signature = record { lifetimes = 0; outlives = []; params = plain (λ _. C) ∷ []; result = plain (λ _. unit) }; kept = (yes, tt) }

abbrev drop_clauses : {M : Type 1} (𝓤 : Ura M) (C : RattleType) → Clauses 𝓤 (drop_ended C)
drop_clauses 𝓤 C κs a = record { ghost = Unit {0}; requires = λ _. emp 𝓤; ensures = λ _ r e. emp 𝓤 }

module _ {M : Type 1} (𝓤 : Ura M) (𝓛 : Logic 𝓤) (𝓜 : Model 𝓤 𝓛.H) (𝓡 : Running 𝓤 𝓛.H 𝓜) (C : RattleType) (dropped : Symbol) where
  abbrev Drops : Type 1
  Drops = Meets 𝓛 (drop_ended C).signature (𝓡.run (𝓡.env (fn₀ dropped))) (closing 𝓛 (drop_ended C) (drop_clauses 𝓤 C))

  glued : 𝓡.env (fn₀ dropped) ≼⁺ 𝓡.env (method (drops dropped) 0 no_args) → Drops → Met 𝓛 𝓜 𝓡 𝓡.env (as_arg C) (drops dropped)
  glued le met y =
      let S = (drop_ended C).signature in let P = triple_of 𝓛 S (closing 𝓛 (drop_ended C) (drop_clauses 𝓤 C)) in let Q = triple_of 𝓛 (glue (as_arg C)) (spent 𝓛 (as_arg C)) in
      let at = 𝓡.env (method (drops dropped) 0 no_args) in let z : P.Ghost = ((tt, tt, tt, y.0.3, y.0.4), tt) in
      let κ = y.0.0.0 in let q = y.0.1.0 in let F = sem 𝓛 (flft κ q) in
      let args = P.args z in let E = λ (r : Unit {0}). ex 𝓤 (λ (ws : Lasts (drop_ended C) tt y.0.3). sep 𝓤 (sem 𝓛 (lasts (drop_ended C) tt y.0.3 ws)) (emp 𝓤)) in
      let Back = λ (v : Val) (r : Unit {0}). sep 𝓤 (sep 𝓤 (emp 𝓤) (sem 𝓛 (unit.own_val r (v ∷ [])))) (E r) in
      via 𝓤 (sep 𝓤 (P.pre z) F)
      (qed 𝓛 (((‵ (flft κ q) ⊛ ‵ ftrue) ⊛ ‵ (owns (C ∷ []) y.0.3 y.0.4)) ∷ (raw (fact 𝓤 (κ ⊑ C.lives)) ⊛ raw (emp 𝓤)) ∷ []) ∵
      split ! $ split ! $ keep ! (0 ∷ 2 ∷ []) $ move ! (1 ∷ []) $ nothing ! $ join ! $ nothing ! $ move ! (1 ∷ 0 ∷ []) $ join ! $ done !)
      (via 𝓤 (sep 𝓤 (𝓡.run at args (P.post z)) F) (mono_l 𝓤 F (widened 𝓤 𝓛.H P 𝓜 𝓡 𝓡.env (𝓡.env (fn₀ dropped)) at le met z))
      (run_framed 𝓤 𝓛.H 𝓜 𝓡 at args (P.post z) (Q.post y) F (λ v. via 𝓤 (𝓛.H.⇛ (sep 𝓤 (ex 𝓤 (Back v)) F)) (𝓛.laws.⇛_frame (ex 𝓤 (Back v)) F) (𝓛.laws.⇛_mono _ _
      (qed 𝓛 (exists (λ (r : Unit {0}). (‵ ftrue ⊛ ‵ (unit.own_val r (v ∷ []))) ⊛ raw (E r)) ∷ ‵ (flft κ q) ∷ []) ∵
      pick ! (λ r. split ! $ split ! $ keep ! (3 ∷ 1 ∷ []) $ nothing ! $ move ! (1 ∷ 0 ∷ []) $ join ! $ join ! $
      show ! (λ (r' : Unit {0}). sep 𝓤 (back 𝓛 (glue (as_arg C)) y.0 v r') ((spent 𝓛 (as_arg C) y.0.0 y.0.3).ensures y.1 r')) r $ frame ! $
      show ! (λ (ws : Unit {0} × Unit {0}). sep 𝓤 (sem 𝓛 (fsep ftrue ftrue)) (emp 𝓤)) (tt, tt) $ nothing ! $ nothing ! $ nothing ! $ join ! $ done !))))))

-- ---- the two methods of a handle
module _ (S : Handle) where
  -- the type, with what it owns written out
  abbrev T : Owning
  T = record S.type { args = []; types = []; parts = RawPtr-field ∷ []; as_values = λ h. (S.at h, tt); heap = λ h. held_at S.core (S.at h) (S.held h) }

  abbrev R : RattleType
  R = row T

  -- the value as a call is passed it, and its box
  abbrev X : RattleType
  X = as_arg S.core

  abbrev X_laws : Laws X
  X_laws = arg_laws (bare (layout S.core)) no S.core S.laws (raw-raw (layout S.core))

  abbrev B : RattleType
  B = box.the_row S.core G.the_row ghosts

  abbrev B_laws : Laws B
  B_laws = box'.the_row_laws S.core G.the_row ghosts S.laws G'.the_row_laws

  abbrev B_told : Told B
  B_told = box'.the_told S.core G.the_row ghosts S.laws G'.the_row_laws G'.the_told

  -- the cell of a handle with this pointer
  abbrev word : Ptr → List Val
  word p = vstruct (vcons (ptr_val p) vnil) ∷ []

  -- what the handle owns, if its cell holds these machine values
  abbrev Own : List Val → Ptr → Option S.core.Denot → Fml
  Own us p x = fsep ((Struct (shape T)).own_val (p, tt) us) (held_at S.core p x)

  -- a method of the handle and a second value, the clauses of the two, and their code
  abbrev ended : RattleType → RattleType → Ended
  ended second result = record {
    signature = record { lifetimes = 1; outlives = []; params = RefMutOf (0 ∷ []) tt (plain (λ _. R)) (λ _. tt) ∷ plain (λ _. second) ∷ []; result = plain (λ _. result) };
    kept = (yes, (yes, tt));
  }

  abbrev stayed : (second result : RattleType) → Stays (ended second result).signature.params (ended second result).kept
  stayed second result = (stay_ref (0 ∷ []) tt (plain (λ _. R)), (stay_dropped _ yes, tt))

  abbrev function : Ty → Ty → Ty → Ty → Body → Fn
  function result second third fourth body =
      let types = result ∷ ty_ref (named 0) mut (pointee R.written) ∷ second ∷ third ∷ fourth ∷ [] in
      record { lifetimes = 1; outlives = []; ty_params = []; givens = 0; params = 2; locals = map (λ τ. local τ value_local) types; body = body }

  abbrev taking : {M : Type 1} (𝓤 : Ura M) → Clauses 𝓤 (ended G.the_row B)
  taking 𝓤 κs a = record {
    ghost = Unit {0};
    requires = λ _. fact 𝓤 (IsSome (S.held a.0.now));
    ensures = λ _ r e. sep 𝓤 (fact 𝓤 (S.held a.0.now ≡ Some r.value)) (fact 𝓤 (S.held e.0.now ≡ None));
  }

  abbrev putting : {M : Type 1} (𝓤 : Ura M) → Clauses 𝓤 (ended B unit)
  putting 𝓤 κs a = record { ghost = Unit {0}; requires = λ _. emp 𝓤; ensures = λ _ r e. fact 𝓤 (S.held e.0.now ≡ Some a.1.0.value) }

  abbrev answer : Body
  answer = seq (assign (place 0 []) (rv_opd (copy (place 3 [])))) return

  abbrev take_code : Fn
  take_code = function (layout B) (layout G.the_row) (layout B) ty_ptr
      (seq (block (seq (assign (place 4 []) (rv_opd (copy (place 1 (deref (layout R) ∷ field 0 ∷ [])))))
      (call (from-code.name (tcons (layout X) (tcons (layout Z) tnil), dcons dict (dcons no_drop dnil))) (copy (place 2 []) ∷ copy (place 4 []) ∷ []) (place 3 [])))) answer)

  abbrev put_code : Symbol → Fn
  put_code dropped = function ty_unit (layout B) ty_ptr (layout B) (seq (assign (place 4 []) (rv_opd (copy (place 2 []))))
      (seq (call (into-code.name (tcons (layout X) (tcons (layout Z) tnil), dcons dict (dcons no_drop (dcons (drops dropped) dnil)))) (copy (place 4 []) ∷ []) (place 3 []))
      (seq (assign (place 1 (deref (layout R) ∷ field 0 ∷ [])) (rv_opd (copy (place 3 []))))
      (seq (assign (place 0 []) (rv_opd opd_unit)) return))))

  module _ {M : Type 1} (𝓤 : Ura M) (𝓛 : Logic 𝓤) (𝓜 : Model 𝓤 𝓛.H) (𝓡 : Running 𝓤 𝓛.H 𝓜) (name : Symbol) where
    pub taken : Wired 𝓡.env (node ((name, take_code) ∷ []) [] (and none.code (and from-code.code memory)))
        → Meets 𝓛 (ended G.the_row B).signature (𝓡.run (𝓡.env (fn₀ name))) (closing 𝓛 (ended G.the_row B) (taking 𝓤))
    unfolding Rattle.dme_c.proofs.Destruct++none.drop.Code.code
    taken wired =
        let E = ended G.the_row B in let hs = stayed G.the_row B in let c = taking 𝓤 in let W = walk_of 𝓛 E hs c in let 𝓣 = tables 𝓤 𝓛.H 𝓜 𝓡 𝓡.env in
        let heap = wired.2.1.1 in let known = from-met.met 𝓤 𝓛 𝓜 𝓡 wired.2.1.0 X Z X_laws Z_laws ghosts dict no_drop
        (passed 𝓡.env heap.0 heap.1.0 heap.1.1.0 heap.1.1.1.0 _ 𝓤 𝓛 𝓜 𝓡) (glues "dme_c::Destruct++none::drop" 𝓡.env wired.2.0 Z Z_laws _ 𝓤 𝓛 𝓜 𝓡) in
        let Made = triple_of 𝓛 (from.signature X Z ghosts dict no_drop) (from.spec X Z ghosts dict no_drop 𝓛 𝓜.mem 𝓡.returns) in
        let Asked = from.ended X Z ghosts dict no_drop in
        proved 𝓛 E hs c 𝓜 𝓡 (Goes-ref 𝓛 1 0 tt (plain (λ _. R)), (Goes-dropped 𝓛 1 (plain (λ _. G.the_row)) yes (λ κs x w. refl), tt))
        (fn₀ name) take_code (wired_unfolds 𝓤 𝓛.H 𝓜 𝓡 𝓡.env (fn₀ name) take_code (wired.0.0 (fn₀ name) refl))
        (λ κs. (mut_vals, ((λ (g : G.the_row.Denot). G'.the_told.val g ∷ []), tt))) (λ κs. (mut_Tells (named 0) κs.0 R, (G'.the_told.tells, tt))) (λ κs qs bounds a _ are.
        let b = a.0.ref_ptr.0 in let o = a.0.ref_ptr.1 in let h = a.0.now in let alloc = a.1.0 in let handle = G'.the_told.val alloc in let vs = mut_vals a.0 in
        let y : W.Ghost = ((κs, qs, bounds, a, (vs, (handle ∷ [], tt))), tt) in
        qed 𝓛 (((‵ (flft κs.0 qs.0) ⊛ ‵ ftrue) ⊛ ‵ ((MutRef (named 0) κs.0 R).own_val a.0 vs) ⊛ ‵ (G.the_row.own_val alloc (handle ∷ [])) ⊛ ‵ ftrue) ∷ raw (fact 𝓤 (IsSome (S.held h))) ∷ []) ∵
        move ! (1 ∷ []) $ heard ! (IsSome (S.held h)) (λ held. let x = there (S.held h) held in
        split ! $ split ! $ move ! (2 ∷ []) $ split3 ! $ keep ! (0 ∷ 3 ∷ 1 ∷ []) $
        -- [the reference; the token; the allocator]
        enter ! _ _ _ _ _ $ alloc_all ! (λ l. pass_all ! refl ((tt, tt), ((tt, ((tt, tt), tt)), tt)) $
        fsplit3 ! $ move ! (1 ∷ 2 ∷ 3 ∷ []) $ opens ! tt R b o (λ us.
        move ! (1 ∷ []) $ peeks ! R _ (shows 𝓛 R) h us (λ is. fsplit ! $ move ! (1 ∷ []) $
        rewrite ! 0 (λ (held' : Option S.core.Denot). ‵ (held_at S.core (S.at h) held')) (there_is (S.held h) held) refl $
        in_a_block ! (S.at h) (λ (p : Ptr). box_owns chunk S.core p x) (fst∗ 𝓤 (never 𝓤) (sem 𝓛 (chunk (bare (lone S.core.mir)) null_ptr))) (λ b' o' e.
        let holds = Tells-lowered T (RawPtr-laws, tt) h us is ∙ ap word e in
        let Cell = λ (ws : List Val). ‵ (cell_at full_share R.mir ws b o) in
        rewrite ! 0 (λ (P : Fml). ‵ P) (S.owns_is (block_ptr b' o') x) refl $ rewrite ! 2 Cell holds refl $
        -- [the box; what the fields own; the handle's cell; the open borrow, in three entries; the reference's first part; the allocator]
        first ! $ blocks ! $ sets ! (of_opd ! (load ! (through ! refl (fld ! refl (stop !))) (look_in ! 2 (sub ! 0 refl (whole !))))) refl (tt, tt) $
        lft_new ! tt (λ δ. lft_new ! tt (λ γ.
        let in_x = (γ ∷ []) ⊑ X.lives in let in_z = (δ ∷ []) ⊑ Z.lives in let Tokens = ‵ (flft (γ ∷ []) full_share) ⊛ ‵ (flft (δ ∷ []) full_share) ⊛ ‵ ftrue in
        let given : Made.Ghost = (((γ ∷ [], (δ ∷ [], tt)), (full_share, (full_share, tt)), tt, (alloc, (block_ptr b' o', tt)), (handle ∷ [], (vptr b' o' ∷ [], tt))), x) in
        -- [the two tokens; the box; what the fields own; ..]
        move ! (2 ∷ []) $ use0 𝓛 (raw (fact 𝓤 in_z)) (fact_i 𝓤 in_z (emp 𝓤) (G'.the_within (δ ∷ []))) $ join ! $
        use0 𝓛 (raw (fact 𝓤 in_x)) (fact_i 𝓤 in_x (emp 𝓤) (S.within (γ ∷ []))) $ join ! $
        -- [what is required; the tokens; what the fields own; the cell; the borrow, in three; the first part; the allocator]
        nothing ! $ feq_i ! (List Val) (vptr b' o' ∷ []) (vptr b' o' ∷ []) refl $ move ! (11 ∷ 0 ∷ 1 ∷ []) $ fjoin3 ! $
        nothing ! $ move ! (4 ∷ 0 ∷ []) $ join ! $ move ! (3 ∷ 0 ∷ []) $ join ! $ join ! $ join ! $ use1 𝓛 (raw (Made.pre given)) (id⊢ 𝓤 _) $
        calls_at_last ! (framed 𝓤 𝓛.H 𝓜 𝓣) Made known given (and_then ! (get ! refl) (and_then ! (get ! refl) (no_more !))) (λ u.
        use1 𝓛 (later (exists (λ (r : B.Denot). (Tokens ⊛ ‵ ((box.the_row X G.the_row ghosts).own_val r (u ∷ []))) ⊛ exists (λ (ws : Lasts Asked given.0.0 given.0.3).
        ‵ (lasts Asked given.0.0 given.0.3 ws) ⊛ (raw (fact 𝓤 (r.value ≡ x)) ⊛ raw (fact 𝓤 (r.alloc ≡ alloc))))))) (id⊢ 𝓤 _) $
        await ! tt $ pick ! (λ r. split ! $ move ! (1 ∷ []) $ pick ! (λ _. split3 ! $ drop ! $ heard ! (r.value ≡ x) (λ same. drop ! $ split ! $ drop ! $
        fsplit ! $ move ! (1 ∷ []) $ rewrite ! 0 (λ (P : Fml). ‵ P) (sym (S.owns_is r.ptr r.value)) refl $ move ! (1 ∷ 0 ∷ []) $ fjoin ! $
        peeks ! B _ (shows 𝓛 B) r (u ∷ []) (λ good. let typed = (B_laws.lawful 𝓛).typed r (u ∷ []) good in
        lands_last ! refl typed.0 $ exec ! 𝓣.C 𝓣.Λ (env take_code.locals l) answer (at_ret _ (W.post y)) $
        sets ! (of_opd ! (get ! refl)) refl typed.0 $
        -- [the result; what the fields own; the handle's cell; the open borrow, in three entries; the reference's first part]
        rewrite ! 2 Cell (sym holds) refl $ move ! (1 ∷ []) $ nothing ! $ move ! (1 ∷ 0 ∷ []) $ fjoin ! $ move ! (2 ∷ 0 ∷ 3 ∷ 4 ∷ 5 ∷ []) $
        let after = S.make (S.at h) None in
        rewrite ! 1 (λ (p : Ptr). ‵ (Own us p None)) (sym (S.made (S.at h) None).0) refl $ rewrite ! 1 (λ (z : Option S.core.Denot). ‵ (Own us (S.at after) z)) (sym (S.made (S.at h) None).1) refl $
        closes ! tt R after us b o $ returns ! (look_at ! 0 refl) $ free_all ! refl $
        -- [the reference's two other parts; the token; the result; the reference's first part]
        move ! (4 ∷ 0 ∷ 1 ∷ []) $ group ! 3 $ nothing ! $ nothing ! $ join ! $ move ! (1 ∷ 0 ∷ []) $ join ! $ nothing ! $ move ! (2 ∷ 0 ∷ []) $ join ! $
        let Gives = S.held h ≡ Some r.value in let Empties = S.held after ≡ None in
        use0 𝓛 (raw (fact 𝓤 Empties)) (fact_i 𝓤 Empties (emp 𝓤) (S.made (S.at h) None).1) $
        use0 𝓛 (raw (fact 𝓤 Gives)) (fact_i 𝓤 Gives (emp 𝓤) (there_is (S.held h) held ∙ ap (λ (z : S.core.Denot). Some z) (sym same))) $
        join ! $ move ! (1 ∷ 2 ∷ 3 ∷ 0 ∷ []) $ by ! (leaves 𝓛 E hs c y u r (after, (tt, tt)) (tt, (tt, tt)))
        )))))))))))))

    pub put : (dropped : Symbol) (drop_code : Code) → ((γ : Env) → Wired γ drop_code → (k : Callee) → some dropped ≡ key_of k → γ (fn dropped (args_of k)) ≼⁺ γ k)
        → (Wired 𝓡.env drop_code → Drops 𝓤 𝓛 𝓜 𝓡 S.core dropped)
        → Wired 𝓡.env (node ((name, put_code dropped) ∷ []) [] (and none.code (and drop_code (and into-code.code memory))))
        → Meets 𝓛 (ended B unit).signature (𝓡.run (𝓡.env (fn₀ name))) (closing 𝓛 (ended B unit) (putting 𝓤))
    unfolding Rattle.dme_c.proofs.Destruct++none.drop.Code.code tables_of
    put dropped drop_code as_method drop_met wired =
        let E = ended B unit in let hs = stayed B unit in let c = putting 𝓤 in let W = walk_of 𝓛 E hs c in let 𝓣 = tables 𝓤 𝓛.H 𝓜 𝓡 𝓡.env in
        let dropping = drops dropped in let heap = wired.2.1.1.1 in
        let Raws = triple_of 𝓛 (into.signature X Z ghosts dict no_drop dropping) (into.spec X Z ghosts dict no_drop dropping 𝓛 𝓜.mem 𝓡.returns) in
        let known = into-met.met 𝓤 𝓛 𝓜 𝓡 wired.2.1.1.0 X Z X_laws Z_laws ghosts dict no_drop dropping
        (passed 𝓡.env heap.0 heap.1.0 heap.1.1.0 heap.1.1.1.0 _ 𝓤 𝓛 𝓜 𝓡) (glues "dme_c::Destruct++none::drop" 𝓡.env wired.2.0 Z Z_laws _ 𝓤 𝓛 𝓜 𝓡)
        (glued 𝓤 𝓛 𝓜 𝓡 S.core dropped (as_method 𝓡.env wired.2.1.0 (method dropping 0 no_args) refl) (drop_met wired.2.1.0)) in
        let Asked = into.ended X Z ghosts dict no_drop dropping in
        proved 𝓛 E hs c 𝓜 𝓡 (Goes-ref 𝓛 1 0 tt (plain (λ _. R)), (Goes-blank 𝓛 1 (plain (λ _. B)) yes (λ κs x w. tt), tt))
        (fn₀ name) (put_code dropped) (wired_unfolds 𝓤 𝓛.H 𝓜 𝓡 𝓡.env (fn₀ name) (put_code dropped) (wired.0.0 (fn₀ name) refl))
        (λ κs. (mut_vals, ((λ (d : B.Denot). B_told.val d ∷ []), tt))) (λ κs. (mut_Tells (named 0) κs.0 R, (B_told.tells, tt))) (λ κs qs bounds a _ are.
        let b = a.0.ref_ptr.0 in let o = a.0.ref_ptr.1 in let h = a.0.now in let d = a.1.0 in let w = B_told.val d in let vs = mut_vals a.0 in let x = d.value in
        let y : W.Ghost = ((κs, qs, bounds, a, (vs, (w ∷ [], tt))), tt) in
        let typed = (B_laws.lawful 𝓛).typed d (w ∷ []) are.1.0 in
        qed 𝓛 (((‵ (flft κs.0 qs.0) ⊛ ‵ ftrue) ⊛ ‵ ((MutRef (named 0) κs.0 R).own_val a.0 vs) ⊛ ‵ (B.own_val d (w ∷ [])) ⊛ ‵ ftrue) ∷ ‵ ftrue ∷ []) ∵
        split ! $ split ! $ move ! (2 ∷ []) $ split3 ! $ keep ! (0 ∷ 3 ∷ 1 ∷ []) $
        -- [the reference; the token; the box]
        enter ! _ _ _ _ _ $ alloc_all ! (λ l. pass_all ! refl ((tt, tt), (typed.0, tt)) $ sets ! (of_opd ! (get ! refl)) refl typed.0 $
        move ! (2 ∷ []) $ fsplit ! $ move ! (1 ∷ []) $ rewrite ! 0 (λ (P : Fml). ‵ P) (S.owns_is d.ptr x) refl $ move ! (1 ∷ 0 ∷ []) $ fjoin ! $
        nothing ! $ move ! (1 ∷ 0 ∷ []) $ fjoin ! $ nothing ! $ lft_new ! tt (λ δ. lft_new ! tt (λ γ.
        let in_x = (γ ∷ []) ⊑ X.lives in let in_z = (δ ∷ []) ⊑ Z.lives in let Tokens = ‵ (flft (γ ∷ []) full_share) ⊛ ‵ (flft (δ ∷ []) full_share) ⊛ ‵ ftrue in
        let given : Raws.Ghost = (((γ ∷ [], (δ ∷ [], tt)), (full_share, (full_share, tt)), tt, (d, tt), (w ∷ [], tt)), tt) in
        move ! (1 ∷ 2 ∷ []) $ join ! $ move ! (1 ∷ 0 ∷ []) $ join ! $ join ! $
        nothing ! $ use0 𝓛 (raw (fact 𝓤 in_z)) (fact_i 𝓤 in_z (emp 𝓤) (G'.the_within (δ ∷ []))) $ join ! $
        use0 𝓛 (raw (fact 𝓤 in_x)) (fact_i 𝓤 in_x (emp 𝓤) (S.within (γ ∷ []))) $ join ! $ move ! (1 ∷ 0 ∷ []) $ join ! $ use1 𝓛 (raw (Raws.pre given)) (id⊢ 𝓤 _) $
        calls_at ! (framed 𝓤 𝓛.H 𝓜 𝓣) Raws known given (and_then ! (get ! refl) (no_more !)) (λ u.
        use1 𝓛 (later (exists (λ (p : Ptr). (Tokens ⊛ ‵ (RawPtr.own_val p (u ∷ []))) ⊛ exists (λ (ws : Lasts Asked given.0.0 given.0.3).
        ‵ (lasts Asked given.0.0 given.0.3 ws) ⊛ ‵ (box_owns chunk X p x))))) (id⊢ 𝓤 _) $
        await ! tt $ pick ! (λ p. split ! $ split ! $ drop ! $ feq_l ! (λ is_ptr. pick ! (λ _. split ! $ drop ! $
        rewrite ! 0 (λ (P : Fml). ‵ P) (sym (S.owns_is p x)) refl $
        in_a_block ! p (λ (q : Ptr). box_owns chunk S.core q x) (fst∗ 𝓤 (never 𝓤) (sem 𝓛 (chunk (bare (lone S.core.mir)) null_ptr))) (λ b' o' e.
        lands_as ! (ap only (is_ptr ∙ ap (λ (q : Ptr). ptr_val q ∷ []) e)) refl (tt, tt) $
        -- [the block; the reference; the token]
        move ! (1 ∷ 2 ∷ []) $ fsplit3 ! $ move ! (1 ∷ 2 ∷ 3 ∷ []) $ opens ! tt R b o (λ us.
        move ! (1 ∷ []) $ peeks ! R _ (shows 𝓛 R) h us (λ is. drop ! $
        let Cell = λ (ws : List Val). ‵ (cell_at full_share R.mir ws b o) in rewrite ! 0 Cell (Tells-lowered T (RawPtr-laws, tt) h us is) refl $
        -- [the handle's cell; the open borrow, in three entries; the reference's first part; the block]
        assigns ! (of_opd ! (get ! refl)) (through ! refl (fld ! refl (stop !))) (store_in ! 0 (sub ! 0 refl (whole !)) (tt, tt)) $
        sets ! (of_opd ! (unit_lit !)) refl (tt, tt) $
        let at = block_ptr b' o' in let after = S.make at (Some x) in let ws = word at in
        nothing ! $ feq_i ! (List Val) (vptr b' o' ∷ []) (vptr b' o' ∷ []) refl $ fjoin ! $ feq_i ! (List Val) ws ws refl $ fjoin ! $
        fpack ! (Valss (RawPtr ∷ [])) (within (shape T) (at, tt) ws) (vptr b' o' ∷ [], tt) $
        move ! (0 ∷ 6 ∷ []) $ fjoin ! $ rewrite ! 0 (λ (q : Ptr). ‵ (Own ws q (Some x))) (sym (S.made at (Some x)).0) refl $
        rewrite ! 0 (λ (z : Option S.core.Denot). ‵ (Own ws (S.at after) z)) (sym (S.made at (Some x)).1) refl $
        move ! (1 ∷ 0 ∷ 2 ∷ 3 ∷ 4 ∷ []) $ closes ! tt R after ws b o $
        returns ! (look_at ! 0 refl) $ free_all ! refl $
        -- [the reference's two other parts; the token; the reference's first part]
        move ! (3 ∷ 0 ∷ 1 ∷ []) $ group ! 3 $ nothing ! $ nothing ! $ join ! $ move ! (1 ∷ 0 ∷ []) $ join ! $ nothing ! $ move ! (2 ∷ 0 ∷ []) $ join ! $
        let Fills = S.held after ≡ Some x in use0 𝓛 (raw (fact 𝓤 Fills)) (fact_i 𝓤 Fills (emp 𝓤) (S.made at (Some x)).1) $ feq_i ! _ (vunit ∷ []) _ refl $
        move ! (2 ∷ 3 ∷ 0 ∷ 1 ∷ []) $ by ! (leaves 𝓛 E hs c y vunit tt (after, (tt, tt)) (tt, (tt, tt)))
        )))))))))))
