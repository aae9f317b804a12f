-- `link::link::chosen_link` meets its contract: the newest of the alternatives before the opener is the newest of all, and the entries that are
-- left give the position that all of them give.
-- Assumes nothing.
use native.Mathlib.Omega.{arith}
use mathlib.Core.Path.{◌≡◌, sym, ◌∙◌}
use mathlib.Core.Bool.{false}
use lib.ListN.{length, get_or}
use Rattle.image.specs.Word.{is_entry}
use Rattle.link.proofs.Choices.{seeking_start, words_after, none_past, placing_turn, choosing_turn, chosen_found, chosen_out}
use Rattle.link.proofs.link.chosen_link.Goals.{else-loop-position-test, then-loop-position-test+then-not-part_entry}
use Rattle.link.proofs.link.chosen_link.Goals as goal

pub loop-alternative-init : goal.loop-alternative-init
loop-alternative-init c = seeking_start _ _ _ _ c.alternatives_of-all.ensures

pub loop-position-preserved : goal.loop-position-preserved
loop-position-preserved c =
    placing_turn _ _ _ _ _ _ _ c.tail_from-tail.ensures _ _ c.loop-position.invariant (sym c.part_entry.ensures ∙ c.if-not-part_entry.false)
    c.traits-t.result c.traits-t.ensures c.if-ok-tail.false

pub loop-alternative-preserved : goal.loop-alternative-preserved
loop-alternative-preserved c =
    let words = words_after c.args.by.now.part.now c.loop-alternative.opener in
    let out : is_entry (get_or words c.loop-position.position 0) ≡ false =
    elim c.loop-position-test.branch [
      | else-loop-position-test w ↦ let last : c.loop-position.position ≡ length words = omega arith in rw last (none_past words)
      | then-loop-position-test+then-not-part_entry w ↦ sym w.part_entry.ensures ∙ w.if-not-part_entry.true
    ] in
    choosing_turn _ _ _ _ _ _ _ _ _ c.loop-alternative.invariant c.loop-alternative-test.true _ _ c.loop-position.invariant out _ c.opener_before-opener.ensures

pub returns-then-ok-tail : goal.returns-then-ok-tail
returns-then-ok-tail c =
    rw c.payload_of.ensures
    (chosen_found _ _ _ _ _ _ _ _ _ c.loop-alternative.invariant c.loop-alternative-test.true _ c.tail_from-tail.ensures _ _
    c.loop-position.invariant (sym c.part_entry.ensures ∙ c.if-not-part_entry.false) c.traits-t.result c.traits-t.ensures c.if-ok-tail.true)

pub returns-after-loop-alternative : goal.returns-after-loop-alternative
returns-after-loop-alternative c = chosen_out _ _ _ _ _ _ _ _ c.alternatives_of-all.ensures _ _ c.loop-alternative.invariant c.loop-alternative-test.false
