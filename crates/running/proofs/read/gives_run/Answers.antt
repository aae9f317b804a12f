-- `running::read::gives_run` meets its contract: whether one of the alternatives to come gives a run is whether one of all does.
-- Assumes nothing.
use Rattle.std.proofs.Common.{◌≡◌, true, false, not, get_or, sym, refl, ap, ◌∙◌, arith}
use Rattle.general.specs.Tests.{some}
use Rattle.image.specs.Word.{is_kind, is_entry}
use Rattle.library.proofs.Decode.{high_at}
use Rattle.walk.proofs.Walking.{tested, walking_start, walking_opener_inside, walking_here, walking_turn, walking_pass, walking_entry_inside, walking_out}
use Rattle.running.specs.Runs.{is_dead}
use Rattle.running.proofs.Gives.{runs_by_lem}
use Rattle.running.proofs.read.gives_run.Goals as goal

pub loop-i-init : goal.loop-i-init
loop-i-init c = walking_start c.requires.1 refl

pub overflow_add-i : goal.overflow_add-i
overflow_add-i c = let at-loop = c in omega (arith, at-loop.loop-i.invariant.within, at-loop.well_formed)

pub part_entry-requires : goal.part_entry-requires
part_entry-requires c =
    let at-loop = c in
    let start = at-loop in
    rw c.word_at-w.ensures (high_at start.args.part.now (λ j l. (start.requires.0.words j l).high) at-loop.loop-i.i)

pub rest_end-i-requires : goal.rest_end-i-requires
rest_end-i-requires c =
    let entry : is_entry (get_or c.args.part.now c.loop-i.i 0) ≡ true = tested is_entry c.word_at-w.ensures c.part_entry.ensures c.if-part_entry.true in
    omega (arith, walking_entry_inside c.loop-i.invariant (entry))

pub loop-i-smaller-then-part_entry : goal.loop-i-smaller-then-part_entry
loop-i-smaller-then-part_entry c =
    let entry : is_entry (get_or c.args.part.now c.loop-i.i 0) ≡ true = tested is_entry c.word_at-w.ensures c.part_entry.ensures c.if-part_entry.true in
    let test = c in
    omega (arith, c.rest_end-i.ensures, walking_entry_inside test.loop-i.invariant (entry))

pub loop-i-preserved-then-part_entry : goal.loop-i-preserved-then-part_entry
loop-i-preserved-then-part_entry c =
    let entry : is_entry (get_or c.args.part.now c.loop-i.i 0) ≡ true = tested is_entry c.word_at-w.ensures c.part_entry.ensures c.if-part_entry.true in
    let test = c in walking_pass test.loop-i.invariant (entry) c.rest_end-i.ensures

pub returns-then-not-is_of : goal.returns-then-not-is_of
unfolding some
returns-then-not-is_of c =
    let test = c in
    let word = test in
    walking_out word.loop-i.invariant (tested (is_kind 7) word.word_at-w.ensures c.is_of.ensures (c.if-not-is_of.true))
    (tested is_entry word.word_at-w.ensures test.part_entry.ensures test.if-part_entry.false)

pub live_end-i-requires : goal.live_end-i-requires
live_end-i-requires c =
    let opener : is_kind 7 (get_or c.args.part.now c.loop-i.i 0) ≡ true = tested (is_kind 7) c.word_at-w.ensures c.is_of.ensures (c.if-not-is_of.false) in
    let at-loop = c in
    (at-loop.requires.0, omega (arith, walking_opener_inside at-loop.loop-i.invariant (opener)))

pub part_entry-requires-else-not-is_of : goal.part_entry-requires-else-not-is_of
part_entry-requires-else-not-is_of c =
    let start = c in
    rw c.word_at.ensures (high_at start.args.part.now (λ j l. (start.requires.0.words j l).high) c.live_end-i.result)

pub returns-then-not-part_entry : goal.returns-then-not-part_entry
returns-then-not-part_entry c =
    let opener : is_kind 7 (get_or c.args.part.now c.loop-i.i 0) ≡ true = tested (is_kind 7) c.word_at-w.ensures c.is_of.ensures (c.if-not-is_of.false) in
    let word = c in
    let walk = word in
    let test = walk in
    let e = tested is_entry word.word_at.ensures c.part_entry-else-not-is_of.ensures (c.if-not-part_entry.true) in
    sym (runs_by_lem _ _ _ true (walk.live_end-i.ensures.gives ∙ ap not e))
    ∙ walking_here test.loop-i.invariant (opener)

pub loop-i-smaller : goal.loop-i-smaller
loop-i-smaller c =
    let opener : is_kind 7 (get_or c.args.part.now c.loop-i.i 0) ≡ true = tested (is_kind 7) c.word_at-w.ensures c.is_of.ensures (c.if-not-is_of.false) in
    let walk = c in
    let test = walk in
    omega (arith, walk.live_end-i.ensures.ended, walking_opener_inside test.loop-i.invariant (opener))

pub loop-i-preserved : goal.loop-i-preserved
loop-i-preserved c =
    let opener : is_kind 7 (get_or c.args.part.now c.loop-i.i 0) ≡ true = tested (is_kind 7) c.word_at-w.ensures c.is_of.ensures (c.if-not-is_of.false) in
    let word = c in
    let walk = word in
    let test = walk in
    let at-loop = test in
    let e = tested is_entry word.word_at.ensures c.part_entry-else-not-is_of.ensures (c.if-not-part_entry.false) in
    walking_turn at-loop.loop-i.invariant (is_dead at-loop.args.runs.now) (opener) walk.live_end-i.ensures.ended
    (runs_by_lem _ _ _ false (walk.live_end-i.ensures.gives ∙ ap not e))
