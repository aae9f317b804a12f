-- `image::fours::fours_ahead` meets its contract: each word that was passed keeps the test.
-- Assumes nothing.
use Rattle.std.proofs.Common.{ℕ, true, sym, ◌∙◌}
use Rattle.image.proofs.FourWords.{four_within, four_at, four_rest, below_four}
use Rattle.image.proofs.fours.fours_ahead.Goals as goal

pub loop-four-preserved : goal.loop-four-preserved
loop-four-preserved g c =
    let here = c.loop-four.invariant in
    let steps = c.in-Some.ensures.steps in
    let cut = sym here.rest ∙ steps.1.0 in
    let long = steps.1.1 ∙ here.size in
    record {
      within = four_within _ _ _ _ cut long;
      each =
          below_four (λ (w : ℕ). g.F.Fn.post c.args.test (w, record {}) true) _ _ here.each
          (four_at _ _ _ _ cut long (λ (w : ℕ). g.F.Fn.post c.args.test (w, record {}) true) (c.all_four.ensures.pass c.if-not-all_four.false));
      rest = four_rest c.args.words.now _ _ c.loop-four.passed cut long;
      size = steps.0 ∙ here.size;
    }
