use Rattle.clap.specs.Words.{found_of, rows_of}
use Rattle.dme_words.proofs.LaterLemmas.{has_lower, has_report, has_run, has_service, has_watch}
use Rattle.dme_words.proofs.words.later_order.Goals as goal

pub serve_order-requires : goal.serve_order-requires
serve_order-requires c = has_service (c.args.name.now, rows_of (found_of c.args.values.now)) c.requires c.in-serve.is

pub run_order-requires : goal.run_order-requires
run_order-requires c = has_run (c.args.name.now, rows_of (found_of c.args.values.now)) c.requires c.in-run.is

pub watch_order-requires : goal.watch_order-requires
watch_order-requires c = has_watch (c.args.name.now, rows_of (found_of c.args.values.now)) c.requires c.in-watch.is

pub lower_order-requires : goal.lower_order-requires
lower_order-requires c = has_lower (c.args.name.now, rows_of (found_of c.args.values.now)) c.requires c.in-lower.is

pub report_order-requires : goal.report_order-requires
report_order-requires c = has_report (c.args.name.now, rows_of (found_of c.args.values.now)) c.requires c.in-report.is
