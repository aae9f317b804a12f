-- `running::read::live_end` meets its contract: what the entries to come give is what the alternative gives.
-- Assumes nothing.
use Rattle.std.proofs.Common.{◌≡◌, false, not, length, get_or, drop, ◌+◌, refl, sym, ap, ◌∙◌, arith}
use Rattle.std.proofs.lemmas.List.{get_or_past}
use Rattle.general.specs.Scan.{every}
use Rattle.image.specs.Word.{is_entry}
use Rattle.library.specs.Library.{entry_of, entries_from}
use Rattle.callers.specs.Callers.{in_set}
use Rattle.walk.proofs.Walking.{folding_out, leaving_start, leaving_turn, leaving_dead, leaving_rest, leaving_out}
use Rattle.running.proofs.Gives.{gives_alive, gives_dead}
use Rattle.running.proofs.read.live_end.Goals as goal
use Rattle.running.proofs.read.live_end.Goals.{then-not-part_entry-via-then-not-part_entry, then-not-part_entry-via-else-not-part_entry+then-is_dead}

pub loop-i-init : goal.loop-i-init
loop-i-init c = leaving_start c.requires.1 refl

pub returns-then-not-part_entry : goal.returns-then-not-part_entry
unfolding every
returns-then-not-part_entry c =
    let here = c.loop-i.invariant in
    elim c.then-not-part_entry.branch [
      | then-not-part_entry-via-then-not-part_entry w ↦
          let e = sym c.part_entry.ensures ∙ w.if-not-part_entry.true in
          record { ended = leaving_out here e; gives = sym (folding_out here.folding e) ∙ sym (ap not e) }
      | then-not-part_entry-via-else-not-part_entry+then-is_dead w ↦
          let e = sym c.part_entry.ensures ∙ w.if-not-part_entry.false in
          let is = sym w.is_dead.ensures ∙ w.if-is_dead.true in
          let part = c.args.part.now in
          let i = c.loop-i.i in
          record { ended = leaving_dead here e is; gives = sym (leaving_rest here e) ∙ gives_dead (in_set c.args.runs.now) (entry_of (get_or part i 0)) (entries_from (drop (i + 1) part)) is ∙ sym (ap not e) }
    ]

pub loop-i-preserved : goal.loop-i-preserved
loop-i-preserved c =
    let is = sym c.is_dead.ensures ∙ c.if-is_dead.false in
    leaving_turn c.loop-i.invariant (sym c.part_entry.ensures ∙ c.if-not-part_entry.false) is (gives_alive _ _ _ is)

pub returns : goal.returns
unfolding every
returns c =
    let here = c.loop-i.invariant in
    let all : c.loop-i.i ≡ length c.args.part.now = omega (arith, c.loop-i.auto.i-end c.requires.1) in
    let e : is_entry (get_or c.args.part.now c.loop-i.i 0) ≡ false = ap is_entry (get_or_past c.args.part.now c.loop-i.i 0 (omega arith)) in
    rw (← all) (record { ended = leaving_out here e; gives = sym (folding_out here.folding e) ∙ sym (ap not e) })
