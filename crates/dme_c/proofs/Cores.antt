-- The four handles, by what each holds.
use Rattle.dme_c.proofs.Names.{refl}
use Rattle.dme_c.proofs.Boxed.{Handle}
use Rattle.client_core.specs.contracts.client.Client as Client
use Rattle.client_core.proofs.client.Client.TheLaws as Client'
use Rattle.server_core.specs.contracts.server.Server as Server
use Rattle.server_core.proofs.server.Server.TheLaws as Server'
use Rattle.dme_c.specs.contracts.hearings.Hearing as Hearing
use Rattle.dme_c.proofs.hearings.Hearing.TheLaws as Hearing'
use Rattle.dme_c.specs.contracts.recordings.Recording as Recording
use Rattle.dme_c.proofs.recordings.Recording.TheLaws as Recording'
use Rattle.dme_c.specs.contracts.handles.ClientHandle as ClientHandle
use Rattle.dme_c.specs.contracts.handles.ServerHandle as ServerHandle
use Rattle.dme_c.specs.contracts.handles.ErrorsHandle as ErrorsHandle
use Rattle.dme_c.specs.contracts.handles.RecordHandle as RecordHandle

abbrev pub client : Handle
client = record { core = Client.the_row; laws = Client'.the_row_laws; within = Client'.the_within; type = ClientHandle.the_type; at = λ h. h.at; held = λ h. h.held; make = λ p x. record { at = p; held = x }; made = λ p x. (refl, refl); owns_is = λ p x. refl }

abbrev pub server : Handle
server = record { core = Server.the_row; laws = Server'.the_row_laws; within = Server'.the_within; type = ServerHandle.the_type; at = λ h. h.at; held = λ h. h.held; make = λ p x. record { at = p; held = x }; made = λ p x. (refl, refl); owns_is = λ p x. refl }

abbrev pub errors : Handle
errors = record { core = Hearing.the_row; laws = Hearing'.the_row_laws; within = Hearing'.the_within; type = ErrorsHandle.the_type; at = λ h. h.at; held = λ h. h.held; make = λ p x. record { at = p; held = x }; made = λ p x. (refl, refl); owns_is = λ p x. refl }

abbrev pub recording : Handle
recording = record { core = Recording.the_row; laws = Recording'.the_row_laws; within = Recording'.the_within; type = RecordHandle.the_type; at = λ h. h.at; held = λ h. h.held; make = λ p x. record { at = p; held = x }; made = λ p x. (refl, refl); owns_is = λ p x. refl }
