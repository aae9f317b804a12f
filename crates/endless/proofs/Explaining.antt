-- What is found from a sequence of an accepted image is what it reaches; and what the endless call comes to, case by case.
-- Assumes nothing.
use Prim.Native.Nat.{ℕ, ◌≤◌, ◌<◌}
use native.Mathlib.Omega.{arith}
use mathlib.Core.Path.{◌≡◌, refl, sym, ap, ap₂, ◌∙◌, subst}
use mathlib.Core.Bool.{Bool, true, false, cond}
use mathlib.Core.List.{List, ◌++◌}
use lib.Dec.{ltb}
use lib.ListN.{length, drop}
use borrow.Author.Tests.{lt-ltb, le-ltb}
use Rattle.general.specs.Scan.{passing}
use Rattle.general.specs.Tests.{All}
use Rattle.general.proofs.Rising.{passing_same}
use Rattle.image.specs.declared.answer.Head.{Head}
use Rattle.image.specs.declared.answer.Refusal.{Refusal}
use Rattle.image.specs.declared.answer.Refusal.TheVariants.{Sequence, HasRun, ListArea}
use Rattle.image.specs.Answer.{Checked, answer_number}
use Rattle.std.specs.Prelude.{Result, Ok, Err}
use Rattle.rules.specs.Checked.{Accepts, checked}
use Rattle.library.specs.Library.{Library, Alternative, library_of, sequences_part}
use Rattle.library.specs.Accepted.{SequenceWord}
use Rattle.library.specs.Calls.{calls_of}
use Rattle.library.specs.Tables.{places_from}
use Rattle.library.proofs.Accepted.{parts, counted}
use Rattle.library.proofs.Rows.{all_at}
use Rattle.runs.specs.Run.{alternatives_of}
use Rattle.runs.specs.Possible.{has_run}
use Rattle.runs.proofs.Columns.{no_run_iff}
use Rattle.tables.proofs.Tables.{few_sequences, place_in, reads_in}
use Rattle.callers.specs.Callers.{in_set, calls}
use Rattle.endings.specs.Endless.{Endless, Reaches, itself, onward}
use Rattle.endings.specs.Reached.{reaches, endless_list}
use Rattle.endings.proofs.Names.{names_iff, accepted_names}
use Rattle.endings.proofs.Support.{reached_endless}
use Rattle.endings.proofs.Reached.{table_reaches}
use Rattle.reach.specs.Queue as found
use Rattle.reach.specs.Queue.{ReachAsked, FromAsked, Found}
use Rattle.endless.specs.Marked.{Marked}
use Rattle.endless.specs.Answer.{endless_answer, explained, area_after, after_check, Explains, EndlessCalled}

-- ---- an accepted image

module _ {h : Head} {image places runs : List ℕ} (accepted : Accepts image h) (marked : Marked h image places runs) {part : List ℕ}
    (sequences : part ≡ sequences_part image) where
  abbrev L : Library
  L = library_of image

  abbrev rest : List ℕ
  rest = drop h.sequences marked.before

  placed : places ≡ places_from 0 part ++ rest
  placed = marked.written.placed ∙ ap (λ (x : List ℕ). places_from 0 x ++ rest) (sym sequences)

  pub reach_asked : ReachAsked h.sequences part places runs
  reach_asked =
      record {
        few = few_sequences image h accepted;
        placed = marked.room;
        within = λ c l. (place_in image h accepted sequences rest placed c l).within;
        names = λ i l.
            (all_at (SequenceWord h) part (subst (All (SequenceWord h)) (sym sequences) (parts image h accepted).sequences) 0 i l).sequence;
      }

  -- who calls whom, and who has no run
  calls_named : (d e : ℕ) → d < h.sequences → calls part places d e ≡ calls_of (alternatives_of L.sequences d) e
  calls_named d e l = ap (λ (alts : List Alternative). calls_of alts e) (reads_in image h accepted sequences rest placed d l)

  sequence_low : {c : ℕ} → Endless L c → c < h.sequences
  sequence_low none = omega (arith, none.sequence, (counted image h accepted).sequences)

  none_marked : {c : ℕ} → Endless L c → in_set runs c ≡ false
  none_marked {c} none = marked.written.exact c ∙ (no_run_iff L c).1 none.none

  module _ {c : ℕ} (asked : Endless L c) where
    from_reaches : {e : ℕ} → FromAsked part places runs c e → Reaches L c e
    from_reaches found.itself = itself asked
    from_reaches (found.onward {d} {e} from called none) =
        let r = from_reaches from in
        let names = (names_iff L d e).0 (sym (calls_named d e (sequence_low (reached_endless L r))) ∙ called) in
        onward r names
        (record {
          sequence = accepted_names image h accepted d e names;
          none = (no_run_iff L e).0 (sym (marked.written.exact e) ∙ none);
        })

    -- what is found is what the sequence reaches
    found_reaches : {set : List ℕ} {count : ℕ} → Found h.sequences part places runs c set count → (e : ℕ) → in_set set e ≡ reaches L c e
    found_reaches {set} all =
        table_reaches L c (in_set set) (λ e inside. from_reaches (all.sound e inside)) (λ none. all.asked)
        (λ d e inside names none.
        all.closed d e inside (calls_named d e (sequence_low (reached_endless L (from_reaches (all.sound d inside)))) ∙ (names_iff L d e).1 names) (none_marked none))

    -- the numbers that are found, in rising order, are the list
    pub found_listed : {set : List ℕ} {count : ℕ} → Found h.sequences part places runs c set count → passing (in_set set) h.sequences ≡ endless_list L c
    unfolding endless_list
    found_listed {set} all =
        passing_same (in_set set) (reaches L c) h.sequences (λ e l. found_reaches all e)
        ∙ ap (passing (reaches L c)) (sym (counted image h accepted).sequences)

  pub reached_listed : {c : ℕ} → c < h.sequences → has_run L c ≡ false → {set : List ℕ} {count : ℕ} → Found h.sequences part places runs c set count
      → passing (in_set set) h.sequences ≡ endless_list L c
  reached_listed {c} low none = found_listed (record { sequence = omega (arith, (counted image h accepted).sequences); none = (no_run_iff L c).0 none })

-- ---- the answer

-- its number on the C side is that of what every call finds: how many there are, or the refusal's
pub answer_is : (found : Result ℕ Refusal) → endless_answer found ≡ answer_number (λ n. n) found
answer_is (Ok n) = refl
answer_is (Err r) = refl

module _ (L : Library) (c : ℕ) (area : List ℕ) where
  abbrev told : Bool → Bool → Result ℕ Refusal
  told run short =
      cond run (Err HasRun) (cond short (Err ListArea) (Ok (length (endless_list L c))))

  explains_by : (run short : Bool) → has_run L c ≡ run → ltb (length area) (length (endless_list L c)) ≡ short
      → Explains L c area (told run short) (area_after (told run short) L c area)
  explains_by run short e f =
      record { answer = sym (ap₂ told e f); area = sym (ap₂ (λ (x y : Bool). area_after (told x y) L c area) e f) }

  pub explains_run : has_run L c ≡ true → Explains L c area (Err HasRun) area
  explains_run e = explains_by true (ltb (length area) (length (endless_list L c))) e refl

  pub explains_short : has_run L c ≡ false → length area < length (endless_list L c) → Explains L c area (Err ListArea) area
  explains_short e short = explains_by false true e (lt-ltb (length area) (length (endless_list L c)) short)

  pub explains_list : has_run L c ≡ false → length (endless_list L c) ≤ length area → (xs : List ℕ) → xs ≡ endless_list L c
      → Explains L c area (Ok (length xs)) (xs ++ drop (length xs) area)
  explains_list e room xs is =
      subst (λ (ys : List ℕ). Explains L c area (Ok (length ys)) (ys ++ drop (length ys) area)) (sym is)
      (explains_by false false e (le-ltb (length area) (length (endless_list L c)) room))

module _ (image : List ℕ) (c : ℕ) (area : List ℕ) where
  called_by : (k : Checked) → checked image ≡ k → (found : Result ℕ Refusal) (after : List ℕ) → found ≡ after_check k image c (length area)
      → after ≡ area_after (after_check k image c (length area)) (library_of image) c area → EndlessCalled image c area found after
  called_by k e found after answer words =
      record {
        answer = answer ∙ ap (λ (x : Checked). after_check x image c (length area)) (sym e);
        area = words ∙ ap (λ (x : Checked). area_after (after_check x image c (length area)) (library_of image) c area) (sym e);
      }

  pub called_refused : (r : Refusal) → checked image ≡ Err r → EndlessCalled image c area (Err r) area
  called_refused r e = called_by (Err r) e (Err r) area refl refl

  module _ (h : Head) (e : checked image ≡ Ok h) where
    abbrev within : Bool → Result ℕ Refusal
    within b = cond b (explained (library_of image) c (length area)) (Err Sequence)

    called_accepted : (b : Bool) → ltb c h.sequences ≡ b → (found : Result ℕ Refusal) (after : List ℕ) → found ≡ within b
        → after ≡ area_after (within b) (library_of image) c area → EndlessCalled image c area found after
    called_accepted b low found after answer words =
        called_by (Ok h) e found after (answer ∙ ap within (sym low)) (words ∙ ap (λ (x : Bool). area_after (within x) (library_of image) c area) (sym low))

    pub called_past : h.sequences ≤ c → EndlessCalled image c area (Err Sequence) area
    called_past past = called_accepted false (le-ltb c h.sequences past) (Err Sequence) area refl refl

    pub called_within : c < h.sequences → (found : Result ℕ Refusal) (after : List ℕ) → Explains (library_of image) c area found after → EndlessCalled image c area found after
    called_within low found after told = called_accepted true (lt-ltb c h.sequences low) found after told.answer told.area
