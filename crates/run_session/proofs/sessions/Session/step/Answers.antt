use Rattle.run_session.proofs.Names.{ap, Apart, Book, Filed, Going, of_file, refl, Stage, State, the_reply, Told}
use Rattle.run_session.proofs.Filing.{arm, is_other, is_quiet, noted_goes, or_other, or_quiet, quiet_goes, quiet_keeps}
use Rattle.run_session.proofs.Stops.{answered_later, is_still, later, may_stop, notes_go, notes_turn, or_still, runs_go, still, still_noted}
use Rattle.run_session.specs.Records.{answered, is_noting, is_stop}
use Rattle.run_session.proofs.Paces.{also_going, is_paced, on_apart, on_filed, on_going, on_told, or_paced}
use Rattle.run_session.proofs.sessions.Session.step.Goals as goal

pub returns-in-Logged-clause-goes : goal.returns-in-Logged-clause-goes
returns-in-Logged-clause-goes c = arm _ c.args.self.now c.call.new.self (the_reply c.args.answer) c.self.view_is
    (or_quiet c.self.inside.stage Stage.Logged refl (or_quiet c.self.inside.stage Stage.Beginning refl (or_quiet c.self.inside.stage Stage.Peeking refl (is_quiet c.self.inside.stage Stage.Connecting refl))) c.in-Logged.is) c.call.ensures.ran c.call.ensures.book

pub returns-in-Warning-clause-goes : goal.returns-in-Warning-clause-goes
returns-in-Warning-clause-goes c = arm _ c.args.self.now c.call-in-Warning.new.self (the_reply c.args.answer) c.self.view_is
    (or_quiet c.self.inside.stage Stage.Warning refl (or_quiet c.self.inside.stage Stage.Elapsing refl (or_quiet c.self.inside.stage Stage.Pausing refl (is_quiet c.self.inside.stage Stage.Limiting refl))) c.in-Warning.is) c.call-in-Warning.ensures.ran c.call-in-Warning.ensures.book

pub returns-in-BeginningFeatures-clause-goes : goal.returns-in-BeginningFeatures-clause-goes
returns-in-BeginningFeatures-clause-goes c = noted_goes _ c.args.self.now c.begun_features.new.self (the_reply c.args.answer) c.self.view_is
    (is_other c.self.inside.stage Stage.BeginningFeatures refl c.in-BeginningFeatures.is) c.begun_features.ensures.ran (ap of_file c.begun_features.ensures.book)

pub returns-in-MakingFeatures-clause-goes : goal.returns-in-MakingFeatures-clause-goes
returns-in-MakingFeatures-clause-goes c = quiet_goes _ c.args.self.now c.made_features.new.self (the_reply c.args.answer) c.self.view_is
    (is_other c.self.inside.stage Stage.MakingFeatures refl c.in-MakingFeatures.is) c.made_features.ensures.quiet

pub returns-in-MakingContacts-clause-goes : goal.returns-in-MakingContacts-clause-goes
returns-in-MakingContacts-clause-goes c = arm _ c.args.self.now c.begin.new.self (the_reply c.args.answer) c.self.view_is
    (or_quiet c.self.inside.stage Stage.MakingContacts refl (is_quiet c.self.inside.stage Stage.BeginningContacts refl) c.in-MakingContacts.is) c.begin.ensures.ran c.begin.ensures.book

pub returns-in-Checking-clause-goes : goal.returns-in-Checking-clause-goes
returns-in-Checking-clause-goes c = runs_go c.checked.result _ _ c.args.self.now c.checked.new.self (the_reply c.args.answer) c.self.view_is
    (is_quiet c.self.inside.stage Stage.Checking refl c.in-Checking.is) c.checked.ensures.ran c.checked.ensures.spent (ap of_file c.checked.ensures.book)

pub returns-in-Timing-clause-goes : goal.returns-in-Timing-clause-goes
returns-in-Timing-clause-goes c = arm _ c.args.self.now c.receive.new.self (the_reply c.args.answer) c.self.view_is
    (or_quiet c.self.inside.stage Stage.Timing refl (is_quiet c.self.inside.stage Stage.Receiving refl) c.in-Timing.is) c.receive.ensures.ran c.receive.ensures.book

pub returns-in-Sending-clause-goes : goal.returns-in-Sending-clause-goes
returns-in-Sending-clause-goes c = arm _ c.args.self.now c.sent.new.self (the_reply c.args.answer) c.self.view_is
    (is_quiet c.self.inside.stage Stage.Sending refl c.in-Sending.is) c.sent.ensures.ran c.sent.ensures.book

pub returns-in-Awaiting-clause-goes : goal.returns-in-Awaiting-clause-goes
returns-in-Awaiting-clause-goes c = runs_go c.typed.result _ _ c.args.self.now c.typed.new.self (the_reply c.args.answer) c.self.view_is
    (is_quiet c.self.inside.stage Stage.Awaiting refl c.in-Awaiting.is) c.typed.ensures.ran c.typed.ensures.spent c.typed.ensures.book

pub returns-in-Returning-clause-goes : goal.returns-in-Returning-clause-goes
returns-in-Returning-clause-goes c = runs_go c.typed-in-Returning.result _ _ c.args.self.now c.typed-in-Returning.new.self (the_reply c.args.answer) c.self.view_is
    (is_quiet c.self.inside.stage Stage.Returning refl c.in-Returning.is) c.typed-in-Returning.ensures.ran c.typed-in-Returning.ensures.spent c.typed-in-Returning.ensures.book

pub returns-in-Tracing-clause-goes : goal.returns-in-Tracing-clause-goes
returns-in-Tracing-clause-goes c = arm _ c.args.self.now c.show_on.new.self (the_reply c.args.answer) c.self.view_is
    (or_quiet c.self.inside.stage Stage.Tracing refl (or_quiet c.self.inside.stage Stage.Stamping refl (is_quiet c.self.inside.stage Stage.Logging refl)) c.in-Tracing.is) c.show_on.ensures.ran c.show_on.ensures.book

pub returns-in-Listing-clause-goes : goal.returns-in-Listing-clause-goes
returns-in-Listing-clause-goes c = noted_goes _ c.args.self.now c.has_listed.new.self (the_reply c.args.answer) c.self.view_is
    (is_other c.self.inside.stage Stage.Listing refl c.in-Listing.is) c.has_listed.ensures.ran (ap of_file c.has_listed.ensures.book)

pub returns-in-Showing-clause-goes : goal.returns-in-Showing-clause-goes
returns-in-Showing-clause-goes c = arm _ c.args.self.now c.has_shown.new.self (the_reply c.args.answer) c.self.view_is
    (is_quiet c.self.inside.stage Stage.Showing refl c.in-Showing.is) c.has_shown.ensures.ran c.has_shown.ensures.book

pub returns-in-Printing-clause-goes : goal.returns-in-Printing-clause-goes
returns-in-Printing-clause-goes c = quiet_goes _ c.args.self.now c.has_printed.new.self (the_reply c.args.answer) c.self.view_is
    (is_other c.self.inside.stage Stage.Printing refl c.in-Printing.is) c.has_printed.ensures.quiet

pub returns-in-Standing-clause-goes : goal.returns-in-Standing-clause-goes
returns-in-Standing-clause-goes c = quiet_goes _ c.args.self.now c.has_stood.new.self (the_reply c.args.answer) c.self.view_is
    (is_other c.self.inside.stage Stage.Standing refl c.in-Standing.is) c.has_stood.ensures.quiet

pub returns-in-ReplacingFeatures-clause-goes : goal.returns-in-ReplacingFeatures-clause-goes
returns-in-ReplacingFeatures-clause-goes c = quiet_goes _ c.args.self.now c.has_replaced.new.self (the_reply c.args.answer) c.self.view_is
    (or_other c.self.inside.stage Stage.ReplacingFeatures refl (or_other c.self.inside.stage Stage.ReplacingRecord refl (is_other c.self.inside.stage Stage.ReplacingContacts refl)) c.in-ReplacingFeatures.is)
    c.has_replaced.ensures.quiet

pub returns-in-Reporting-clause-goes : goal.returns-in-Reporting-clause-goes
returns-in-Reporting-clause-goes c = noted_goes _ c.args.self.now c.has_reported.new.self (the_reply c.args.answer) c.self.view_is
    (is_other c.self.inside.stage Stage.Reporting refl c.in-Reporting.is) c.has_reported.ensures.ran (ap of_file c.has_reported.ensures.book)

pub returns-in-Logged-clause-followed : goal.returns-in-Logged-clause-followed
returns-in-Logged-clause-followed c = on_apart c.call.result _ c.args.self.now c.call.new.self c.self.view_is
    (or_paced Apart c.self.inside.stage Stage.Logged refl (or_paced Apart c.self.inside.stage Stage.Beginning refl (or_paced Apart c.self.inside.stage Stage.Peeking refl (is_paced Apart c.self.inside.stage Stage.Connecting refl))) c.in-Logged.is) (ap (λ (b : Book). b.short) c.call.ensures.book) c.call.ensures.followed

pub returns-in-Warning-clause-followed : goal.returns-in-Warning-clause-followed
returns-in-Warning-clause-followed c = on_apart c.call-in-Warning.result _ c.args.self.now c.call-in-Warning.new.self c.self.view_is
    (or_paced Apart c.self.inside.stage Stage.Warning refl (or_paced Apart c.self.inside.stage Stage.Elapsing refl (or_paced Apart c.self.inside.stage Stage.Pausing refl (is_paced Apart c.self.inside.stage Stage.Limiting refl))) c.in-Warning.is) (ap (λ (b : Book). b.short) c.call-in-Warning.ensures.book) c.call-in-Warning.ensures.followed

pub returns-in-BeginningFeatures-clause-followed : goal.returns-in-BeginningFeatures-clause-followed
returns-in-BeginningFeatures-clause-followed c = on_apart c.begun_features.result _ c.args.self.now c.begun_features.new.self c.self.view_is
    (is_paced Apart c.self.inside.stage Stage.BeginningFeatures refl c.in-BeginningFeatures.is) (ap (λ (b : Book). b.short) c.begun_features.ensures.book) c.begun_features.ensures.followed

pub returns-in-MakingFeatures-clause-followed : goal.returns-in-MakingFeatures-clause-followed
returns-in-MakingFeatures-clause-followed c = on_apart c.made_features.result _ c.args.self.now c.made_features.new.self c.self.view_is
    (is_paced Apart c.self.inside.stage Stage.MakingFeatures refl c.in-MakingFeatures.is) (ap (λ (s : State). s.book.short) c.made_features.ensures.quiet) c.made_features.ensures.followed

pub returns-in-MakingContacts-clause-followed : goal.returns-in-MakingContacts-clause-followed
returns-in-MakingContacts-clause-followed c = on_apart c.begin.result _ c.args.self.now c.begin.new.self c.self.view_is
    (or_paced Apart c.self.inside.stage Stage.MakingContacts refl (is_paced Apart c.self.inside.stage Stage.BeginningContacts refl) c.in-MakingContacts.is) (ap (λ (b : Book). b.short) c.begin.ensures.book) c.begin.ensures.followed

pub returns-in-Checking-clause-followed : goal.returns-in-Checking-clause-followed
returns-in-Checking-clause-followed c = on_going c.checked.result _ c.args.self.now c.checked.new.self c.self.view_is
    (is_paced Going c.self.inside.stage Stage.Checking refl c.in-Checking.is) (ap (λ (b : Book). b.short) c.checked.ensures.book) c.checked.ensures.followed

pub returns-in-Timing-clause-followed : goal.returns-in-Timing-clause-followed
returns-in-Timing-clause-followed c = on_going c.receive.result _ c.args.self.now c.receive.new.self c.self.view_is
    (or_paced Going c.self.inside.stage Stage.Timing refl (is_paced Going c.self.inside.stage Stage.Receiving refl) c.in-Timing.is) (ap (λ (b : Book). b.short) c.receive.ensures.book) c.receive.ensures.followed

pub returns-in-Sending-clause-followed : goal.returns-in-Sending-clause-followed
returns-in-Sending-clause-followed c = on_going c.sent.result _ c.args.self.now c.sent.new.self c.self.view_is
    (is_paced Going c.self.inside.stage Stage.Sending refl c.in-Sending.is) (ap (λ (b : Book). b.short) c.sent.ensures.book) (also_going c.sent.result c.args.self.now c.sent.new.self c.sent.ensures.followed)

pub returns-in-Awaiting-clause-followed : goal.returns-in-Awaiting-clause-followed
returns-in-Awaiting-clause-followed c = on_going c.typed.result _ c.args.self.now c.typed.new.self c.self.view_is
    (is_paced Going c.self.inside.stage Stage.Awaiting refl c.in-Awaiting.is) c.typed.ensures.short c.typed.ensures.followed

pub returns-in-Returning-clause-followed : goal.returns-in-Returning-clause-followed
returns-in-Returning-clause-followed c = on_going c.typed-in-Returning.result _ c.args.self.now c.typed-in-Returning.new.self c.self.view_is
    (is_paced Going c.self.inside.stage Stage.Returning refl c.in-Returning.is) c.typed-in-Returning.ensures.short c.typed-in-Returning.ensures.followed

pub returns-in-Tracing-clause-followed : goal.returns-in-Tracing-clause-followed
returns-in-Tracing-clause-followed c = on_told c.show_on.result _ c.args.self.now c.show_on.new.self c.self.view_is
    (or_paced Told c.self.inside.stage Stage.Tracing refl (or_paced Told c.self.inside.stage Stage.Stamping refl (is_paced Told c.self.inside.stage Stage.Logging refl)) c.in-Tracing.is) (ap (λ (b : Book). b.short) c.show_on.ensures.book) c.show_on.ensures.followed

pub returns-in-Reporting-clause-followed : goal.returns-in-Reporting-clause-followed
returns-in-Reporting-clause-followed c = on_filed c.has_reported.result _ c.args.self.now c.has_reported.new.self c.self.view_is
    (is_paced Filed c.self.inside.stage Stage.Reporting refl c.in-Reporting.is) (ap (λ (b : Book). b.short) c.has_reported.ensures.book) c.has_reported.ensures.followed

pub returns-in-Listing-clause-followed : goal.returns-in-Listing-clause-followed
returns-in-Listing-clause-followed c = on_filed c.has_listed.result _ c.args.self.now c.has_listed.new.self c.self.view_is
    (is_paced Filed c.self.inside.stage Stage.Listing refl c.in-Listing.is) (ap (λ (b : Book). b.short) c.has_listed.ensures.book) c.has_listed.ensures.followed

pub returns-in-Showing-clause-followed : goal.returns-in-Showing-clause-followed
returns-in-Showing-clause-followed c = on_filed c.has_shown.result _ c.args.self.now c.has_shown.new.self c.self.view_is
    (is_paced Filed c.self.inside.stage Stage.Showing refl c.in-Showing.is) (ap (λ (b : Book). b.short) c.has_shown.ensures.book) c.has_shown.ensures.followed

pub returns-in-Parting-clause-followed : goal.returns-in-Parting-clause-followed
returns-in-Parting-clause-followed c = on_apart c.leave_on.result _ c.args.self.now c.leave_on.new.self c.self.view_is
    (or_paced Apart c.self.inside.stage Stage.Parting refl (or_paced Apart c.self.inside.stage Stage.Closing refl (or_paced Apart c.self.inside.stage Stage.Draining refl (is_paced Apart c.self.inside.stage Stage.Leaving refl))) c.in-Parting.is) (ap (λ (s : State). s.book.short) c.leave_on.ensures.quiet) c.leave_on.ensures.followed

pub returns-in-Parting-clause-goes : goal.returns-in-Parting-clause-goes
returns-in-Parting-clause-goes c = arm _ c.args.self.now c.leave_on.new.self (the_reply c.args.answer) c.self.view_is
    (or_quiet c.self.inside.stage Stage.Parting refl (or_quiet c.self.inside.stage Stage.Closing refl (or_quiet c.self.inside.stage Stage.Draining refl (is_quiet c.self.inside.stage Stage.Leaving refl))) c.in-Parting.is)
    (quiet_keeps c.args.self.now c.leave_on.new.self c.leave_on.ensures.quiet) (ap (λ (s : State). s.book) c.leave_on.ensures.quiet)

pub returns-in-ReplacingFeatures-clause-followed : goal.returns-in-ReplacingFeatures-clause-followed
returns-in-ReplacingFeatures-clause-followed c = on_apart c.has_replaced.result _ c.args.self.now c.has_replaced.new.self c.self.view_is
    (or_paced Apart c.self.inside.stage Stage.ReplacingFeatures refl (or_paced Apart c.self.inside.stage Stage.ReplacingRecord refl (is_paced Apart c.self.inside.stage Stage.ReplacingContacts refl)) c.in-ReplacingFeatures.is)
    (ap (λ (s : State). s.book.short) c.has_replaced.ensures.quiet) c.has_replaced.ensures.followed

pub returns-in-Logged-clause-stops : goal.returns-in-Logged-clause-stops
returns-in-Logged-clause-stops c = still c.call.result _ c.args.self.now c.call.new.self (the_reply c.args.answer) c.self.view_is
    (or_still (the_reply c.args.answer) c.self.inside.stage Stage.Logged (refl, refl) (or_still (the_reply c.args.answer) c.self.inside.stage Stage.Beginning (refl, refl) (or_still (the_reply c.args.answer) c.self.inside.stage Stage.Peeking (refl, refl) (is_still (the_reply c.args.answer) c.self.inside.stage Stage.Connecting (refl, refl)))) c.in-Logged.is)
    (later c.args.self.now c.call.new.self c.call.ensures.ran) c.call.ensures.book

pub returns-in-Warning-clause-stops : goal.returns-in-Warning-clause-stops
returns-in-Warning-clause-stops c = still c.call-in-Warning.result _ c.args.self.now c.call-in-Warning.new.self (the_reply c.args.answer) c.self.view_is
    (or_still (the_reply c.args.answer) c.self.inside.stage Stage.Warning (refl, refl) (or_still (the_reply c.args.answer) c.self.inside.stage Stage.Elapsing (refl, refl) (or_still (the_reply c.args.answer) c.self.inside.stage Stage.Pausing (refl, refl) (is_still (the_reply c.args.answer) c.self.inside.stage Stage.Limiting (refl, refl)))) c.in-Warning.is)
    (later c.args.self.now c.call-in-Warning.new.self c.call-in-Warning.ensures.ran) c.call-in-Warning.ensures.book

pub returns-in-BeginningFeatures-clause-stops : goal.returns-in-BeginningFeatures-clause-stops
returns-in-BeginningFeatures-clause-stops c = still c.begun_features.result _ c.args.self.now c.begun_features.new.self (the_reply c.args.answer) c.self.view_is
    (is_still (the_reply c.args.answer) c.self.inside.stage Stage.BeginningFeatures (refl, refl) c.in-BeginningFeatures.is)
    (answered_later c.args.self.now c.begun_features.new.self (the_reply c.args.answer) c.begun_features.ensures.ran) c.begun_features.ensures.book

pub returns-in-MakingFeatures-clause-stops : goal.returns-in-MakingFeatures-clause-stops
returns-in-MakingFeatures-clause-stops c = still c.made_features.result _ c.args.self.now c.made_features.new.self (the_reply c.args.answer) c.self.view_is
    (is_still (the_reply c.args.answer) c.self.inside.stage Stage.MakingFeatures (refl, refl) c.in-MakingFeatures.is)
    (answered_later c.args.self.now c.made_features.new.self (the_reply c.args.answer) (quiet_keeps (answered c.args.self.now (the_reply c.args.answer)) c.made_features.new.self c.made_features.ensures.quiet))
    (ap (λ (s : State). s.book) c.made_features.ensures.quiet)

pub returns-in-MakingContacts-clause-stops : goal.returns-in-MakingContacts-clause-stops
returns-in-MakingContacts-clause-stops c = still c.begin.result _ c.args.self.now c.begin.new.self (the_reply c.args.answer) c.self.view_is
    (or_still (the_reply c.args.answer) c.self.inside.stage Stage.MakingContacts (refl, refl) (is_still (the_reply c.args.answer) c.self.inside.stage Stage.BeginningContacts (refl, refl)) c.in-MakingContacts.is)
    (later c.args.self.now c.begin.new.self c.begin.ensures.ran) c.begin.ensures.book

pub returns-in-Timing-clause-stops : goal.returns-in-Timing-clause-stops
returns-in-Timing-clause-stops c = still c.receive.result _ c.args.self.now c.receive.new.self (the_reply c.args.answer) c.self.view_is
    (or_still (the_reply c.args.answer) c.self.inside.stage Stage.Timing (refl, refl) (is_still (the_reply c.args.answer) c.self.inside.stage Stage.Receiving (refl, refl)) c.in-Timing.is)
    (later c.args.self.now c.receive.new.self c.receive.ensures.ran) c.receive.ensures.book

pub returns-in-Sending-clause-stops : goal.returns-in-Sending-clause-stops
returns-in-Sending-clause-stops c = still c.sent.result _ c.args.self.now c.sent.new.self (the_reply c.args.answer) c.self.view_is
    (is_still (the_reply c.args.answer) c.self.inside.stage Stage.Sending (refl, refl) c.in-Sending.is)
    (later c.args.self.now c.sent.new.self c.sent.ensures.ran) c.sent.ensures.book

pub returns-in-Tracing-clause-stops : goal.returns-in-Tracing-clause-stops
returns-in-Tracing-clause-stops c = still c.show_on.result _ c.args.self.now c.show_on.new.self (the_reply c.args.answer) c.self.view_is
    (or_still (the_reply c.args.answer) c.self.inside.stage Stage.Tracing (refl, refl) (or_still (the_reply c.args.answer) c.self.inside.stage Stage.Stamping (refl, refl) (is_still (the_reply c.args.answer) c.self.inside.stage Stage.Logging (refl, refl))) c.in-Tracing.is)
    (later c.args.self.now c.show_on.new.self c.show_on.ensures.ran) c.show_on.ensures.book

pub returns-in-Recording-clause-stops : goal.returns-in-Recording-clause-stops
returns-in-Recording-clause-stops c = still_noted c.recorded.result _ c.args.self.now c.recorded.new.self (the_reply c.args.answer) c.self.view_is
    (or_still (the_reply c.args.answer) c.self.inside.stage Stage.Recording (refl, refl) (is_still (the_reply c.args.answer) c.self.inside.stage Stage.Settling (refl, refl)) c.in-Recording.is)
    (later c.args.self.now c.recorded.new.self c.recorded.ensures.ran) c.recorded.ensures.noted

pub returns-in-Reporting-clause-stops : goal.returns-in-Reporting-clause-stops
returns-in-Reporting-clause-stops c = still c.has_reported.result _ c.args.self.now c.has_reported.new.self (the_reply c.args.answer) c.self.view_is
    (is_still (the_reply c.args.answer) c.self.inside.stage Stage.Reporting (refl, refl) c.in-Reporting.is)
    (answered_later c.args.self.now c.has_reported.new.self (the_reply c.args.answer) c.has_reported.ensures.ran) c.has_reported.ensures.book

pub returns-in-Listing-clause-stops : goal.returns-in-Listing-clause-stops
returns-in-Listing-clause-stops c = still c.has_listed.result _ c.args.self.now c.has_listed.new.self (the_reply c.args.answer) c.self.view_is
    (is_still (the_reply c.args.answer) c.self.inside.stage Stage.Listing (refl, refl) c.in-Listing.is)
    (answered_later c.args.self.now c.has_listed.new.self (the_reply c.args.answer) c.has_listed.ensures.ran) c.has_listed.ensures.book

pub returns-in-Showing-clause-stops : goal.returns-in-Showing-clause-stops
returns-in-Showing-clause-stops c = still c.has_shown.result _ c.args.self.now c.has_shown.new.self (the_reply c.args.answer) c.self.view_is
    (is_still (the_reply c.args.answer) c.self.inside.stage Stage.Showing (refl, refl) c.in-Showing.is)
    (later c.args.self.now c.has_shown.new.self c.has_shown.ensures.ran) c.has_shown.ensures.book

pub returns-in-Printing-clause-stops : goal.returns-in-Printing-clause-stops
returns-in-Printing-clause-stops c = still c.has_printed.result _ c.args.self.now c.has_printed.new.self (the_reply c.args.answer) c.self.view_is
    (is_still (the_reply c.args.answer) c.self.inside.stage Stage.Printing (refl, refl) c.in-Printing.is)
    (answered_later c.args.self.now c.has_printed.new.self (the_reply c.args.answer) (quiet_keeps (answered c.args.self.now (the_reply c.args.answer)) c.has_printed.new.self c.has_printed.ensures.quiet))
    (ap (λ (s : State). s.book) c.has_printed.ensures.quiet)

pub returns-in-Parting-clause-stops : goal.returns-in-Parting-clause-stops
returns-in-Parting-clause-stops c = still c.leave_on.result _ c.args.self.now c.leave_on.new.self (the_reply c.args.answer) c.self.view_is
    (or_still (the_reply c.args.answer) c.self.inside.stage Stage.Parting (refl, refl) (or_still (the_reply c.args.answer) c.self.inside.stage Stage.Closing (refl, refl) (or_still (the_reply c.args.answer) c.self.inside.stage Stage.Draining (refl, refl) (is_still (the_reply c.args.answer) c.self.inside.stage Stage.Leaving (refl, refl)))) c.in-Parting.is)
    (later c.args.self.now c.leave_on.new.self (quiet_keeps c.args.self.now c.leave_on.new.self c.leave_on.ensures.quiet))
    (ap (λ (s : State). s.book) c.leave_on.ensures.quiet)

pub returns-in-DiscardingFeatures-clause-stops : goal.returns-in-DiscardingFeatures-clause-stops
returns-in-DiscardingFeatures-clause-stops c = still c.leave_on-in-DiscardingFeatures.result _ c.args.self.now c.leave_on-in-DiscardingFeatures.new.self (the_reply c.args.answer) c.self.view_is
    (or_still (the_reply c.args.answer) c.self.inside.stage Stage.DiscardingFeatures (refl, refl) (is_still (the_reply c.args.answer) c.self.inside.stage Stage.DiscardingContacts (refl, refl)) c.in-DiscardingFeatures.is)
    (later c.args.self.now c.leave_on-in-DiscardingFeatures.new.self (quiet_keeps c.args.self.now c.leave_on-in-DiscardingFeatures.new.self c.leave_on-in-DiscardingFeatures.ensures.quiet))
    (ap (λ (s : State). s.book) c.leave_on-in-DiscardingFeatures.ensures.quiet)

pub returns-in-Standing-clause-stops : goal.returns-in-Standing-clause-stops
returns-in-Standing-clause-stops c = still c.has_stood.result _ c.args.self.now c.has_stood.new.self (the_reply c.args.answer) c.self.view_is
    (is_still (the_reply c.args.answer) c.self.inside.stage Stage.Standing (refl, refl) c.in-Standing.is)
    (answered_later c.args.self.now c.has_stood.new.self (the_reply c.args.answer) (quiet_keeps (answered c.args.self.now (the_reply c.args.answer)) c.has_stood.new.self c.has_stood.ensures.quiet))
    (ap (λ (s : State). s.book) c.has_stood.ensures.quiet)

pub returns-in-ReplacingFeatures-clause-stops : goal.returns-in-ReplacingFeatures-clause-stops
returns-in-ReplacingFeatures-clause-stops c = still c.has_replaced.result _ c.args.self.now c.has_replaced.new.self (the_reply c.args.answer) c.self.view_is
    (or_still (the_reply c.args.answer) c.self.inside.stage Stage.ReplacingFeatures (refl, refl) (or_still (the_reply c.args.answer) c.self.inside.stage Stage.ReplacingRecord (refl, refl) (is_still (the_reply c.args.answer) c.self.inside.stage Stage.ReplacingContacts (refl, refl))) c.in-ReplacingFeatures.is)
    (answered_later c.args.self.now c.has_replaced.new.self (the_reply c.args.answer) (quiet_keeps (answered c.args.self.now (the_reply c.args.answer)) c.has_replaced.new.self c.has_replaced.ensures.quiet))
    (ap (λ (s : State). s.book) c.has_replaced.ensures.quiet)

pub returns-in-Checking-clause-stops : goal.returns-in-Checking-clause-stops
returns-in-Checking-clause-stops c = may_stop c.checked.result _ _ c.args.self.now c.checked.new.self (the_reply c.args.answer) c.self.view_is
    (ap (λ (st : Stage). is_stop st (the_reply c.args.answer)) c.in-Checking.is) (ap is_noting c.in-Checking.is) c.checked.ensures.ran c.checked.ensures.spent (ap of_file c.checked.ensures.book)

pub returns-in-Awaiting-clause-stops : goal.returns-in-Awaiting-clause-stops
returns-in-Awaiting-clause-stops c = may_stop c.typed.result _ _ c.args.self.now c.typed.new.self (the_reply c.args.answer) c.self.view_is
    (ap (λ (s : State). is_stop s.stage (the_reply c.args.answer)) c.self.view_is) (ap is_noting c.in-Awaiting.is) c.typed.ensures.ran c.typed.ensures.spent c.typed.ensures.book

pub returns-in-Returning-clause-stops : goal.returns-in-Returning-clause-stops
returns-in-Returning-clause-stops c = may_stop c.typed-in-Returning.result _ _ c.args.self.now c.typed-in-Returning.new.self (the_reply c.args.answer) c.self.view_is
    (ap (λ (s : State). is_stop s.stage (the_reply c.args.answer)) c.self.view_is) (ap is_noting c.in-Returning.is) c.typed-in-Returning.ensures.ran c.typed-in-Returning.ensures.spent c.typed-in-Returning.ensures.book

pub returns-in-DiscardingFeatures-clause-followed : goal.returns-in-DiscardingFeatures-clause-followed
returns-in-DiscardingFeatures-clause-followed c = on_apart c.leave_on-in-DiscardingFeatures.result _ c.args.self.now c.leave_on-in-DiscardingFeatures.new.self c.self.view_is
    (or_paced Apart c.self.inside.stage Stage.DiscardingFeatures refl (is_paced Apart c.self.inside.stage Stage.DiscardingContacts refl) c.in-DiscardingFeatures.is)
    (ap (λ (s : State). s.book.short) c.leave_on-in-DiscardingFeatures.ensures.quiet) c.leave_on-in-DiscardingFeatures.ensures.followed

pub returns-in-Noting-clause-goes : goal.returns-in-Noting-clause-goes
returns-in-Noting-clause-goes c = notes_go _ c.args.self.now c.noted.new.self (the_reply c.args.answer) c.self.view_is c.in-Noting.is
    c.noted.ensures.ran c.noted.ensures.book

pub returns-in-Noting-clause-followed : goal.returns-in-Noting-clause-followed
returns-in-Noting-clause-followed c = on_told c.noted.result _ c.args.self.now c.noted.new.self c.self.view_is
    (is_paced Told c.self.inside.stage Stage.Noting refl c.in-Noting.is) (ap (λ (b : Book). b.short) c.noted.ensures.book) c.noted.ensures.followed

pub returns-in-Noting-clause-stops : goal.returns-in-Noting-clause-stops
returns-in-Noting-clause-stops c = notes_turn c.noted.result _ c.args.self.now c.noted.new.self (the_reply c.args.answer) c.self.view_is c.in-Noting.is
    c.noted.ensures.exact c.noted.ensures.passes c.noted.ensures.ran
