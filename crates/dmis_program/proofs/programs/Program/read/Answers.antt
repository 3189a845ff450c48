use Rattle.dmis_program.proofs.Names.{◌∙◌, AreInVolume, false, refl, subst, sym, true}
use Rattle.dmis_program.proofs.CarryingLemmas.{starts, goes_past, closes_at, keeps_sound}
use Rattle.dmis_program.proofs.ShapeLemmas.{program_stored}
use Rattle.dmis_program.proofs.SoundLemmas.{sound_at_start}
use Rattle.dmis_program.proofs.programs.Program.read.Goals as goal

pub loop-reader-init : goal.loop-reader-init
loop-reader-init c = (
  starts c.args.frames.now c.args.bytes.now c.new-statements.result.left c.new-statements.result.fault c.new-statements.result.lines
      c.new-reader.result (subst AreInVolume c.frames.view_is c.frames.invariant.within) c.new-reader.ensures c.new-statements.ensures.left
      c.new-statements.ensures.fault c.new-statements.ensures.lines,
  rw c.new-reader.ensures sound_at_start,
)

pub finish-requires : goal.finish-requires
finish-requires c =
    let given = rw c.in-Ok-true.field-0-test at c.in-Ok-true.ensures in
    (keeps_sound c.args.frames.now c.loop-reader.reader c.in-Some.statement true c.read.new.self
    (subst AreInVolume c.frames.view_is c.frames.invariant.within) c.loop-reader.invariant.1 given).program refl

pub loop-reader-preserved : goal.loop-reader-preserved
loop-reader-preserved c =
    let given = rw c.in-Ok-false.field-0-test at c.in-Ok-false.ensures in
    let split = rw c.in-Some.is at c.in_ok-statement.ensures.statement in
    let rest = goes_past c.args.frames.now c.loop-reader.statements.fault c.loop-reader.statements.lines c.in-Some.statement
    c.loop-reader.statements.left c.next_statement.new.statements.left c.loop-reader.reader c.read.new.self split given in (
      rw (c.take_back.ensures, c.next_statement.ensures.fault, c.next_statement.ensures.lines) (rest ∙ c.loop-reader.invariant.0),
      (keeps_sound c.args.frames.now c.loop-reader.reader c.in-Some.statement false c.read.new.self
          (subst AreInVolume c.frames.view_is c.frames.invariant.within) c.loop-reader.invariant.1 given).sound,
    )

pub returns-in-Ok-true-clause-stored : goal.returns-in-Ok-true-clause-stored
returns-in-Ok-true-clause-stored c =
    let given = rw c.in-Ok-true.field-0-test at c.in-Ok-true.ensures in
    let split = rw c.in-Some.is at c.in_ok-statement.ensures.statement in
    let closed = closes_at c.args.frames.now c.loop-reader.statements.fault c.loop-reader.statements.lines c.in-Some.statement
    c.loop-reader.statements.left c.next_statement.new.statements.left c.loop-reader.reader c.read.new.self split given in
    rw c.finish.ensures (program_stored c.args.frames.now c.args.bytes.now _ (sym c.loop-reader.invariant.0 ∙ closed))
