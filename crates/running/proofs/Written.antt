-- The places of an accepted image are what the visits ask, and the set that they settle is that of the sequences with a run.
-- Assumes nothing.
use Rattle.std.proofs.Common.{◌≡◌, ℕ, ◌≤◌, List, ◌++◌, length, drop, refl, sym, ap, ◌∙◌, subst, arith}
use Rattle.general.specs.Tests.{All}
use Rattle.general.proofs.Numbers.{zeros}
use Rattle.image.specs.declared.answer.Head.{Head}
use Rattle.rules.specs.Checked.{Accepts}
use Rattle.library.specs.Library.{sequences_part, library_of}
use Rattle.library.specs.Accepted.{SequenceWord}
use Rattle.library.specs.Tables.{places_from}
use Rattle.library.proofs.Accepted.{parts, counted, sequence_entry}
use Rattle.library.proofs.Rows.{all_at}
use Rattle.callers.specs.Callers.{no_sequences}
use Rattle.settling.specs.Settling.{Settles}
use Rattle.tables.proofs.Tables.{few_sequences, place_in, reads_in}
use Rattle.running.specs.Visited.{RunsVisitable, visited}
use Rattle.running.specs.Written.{RunningAsked, RunningWritten}
use Rattle.running.proofs.Exact.{Given, settled_exact}

module _ {h : Head} (image : List ℕ) {places₀ : List ℕ} (accepted : Accepts image h) (asked : RunningAsked h places₀) {part : List ℕ} (sequences : part ≡ sequences_part image) {places : List ℕ}
    (placed : places ≡ places_from 0 part ++ drop h.sequences places₀) where
  few : h.sequences ≤ 256
  few = few_sequences image h accepted

  pub visits_asked : length places ≡ length places₀ → RunsVisitable h.sequences part places
  visits_asked long =
      record {
        readable =
            record {
              words = λ i l.
                  let w = all_at (SequenceWord h) part (subst (All (SequenceWord h)) (sym sequences) (parts image h accepted).sequences) 0 i l in
                  record { high = sequence_entry _ w; sequence = λ k. omega (arith, w.sequence k, few) };
            };
        few = few;
        placed = omega (arith, asked.room);
        within = λ c l. (place_in image h accepted sequences (drop h.sequences places₀) placed c l).within;
      }

  image_given : Given (library_of image) h.sequences part places
  image_given =
      record {
        few = few;
        counted = (counted image h accepted).sequences;
        reads = reads_in image h accepted sequences (drop h.sequences places₀) placed;
      }

  pub running_written : (runs : List ℕ) → Settles (visited part places) h.sequences no_sequences runs → RunningWritten h image places₀ places runs
  running_written runs settled =
      record {
        placed = placed ∙ ap (λ (x : List ℕ). places_from 0 x ++ drop h.sequences places₀) sequences;
        exact = settled_exact (library_of image) h.sequences part places image_given no_sequences runs refl (zeros 4) settled;
      }
