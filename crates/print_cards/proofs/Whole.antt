-- What was read gets the answer of the whole input: it is all of it, or both are longer than an image can be.
-- Assumes nothing.
use Rattle.std.proofs.Common.{◌≡◌, ℕ, ◌+◌, ◌≤◌, ◌<◌, List, ◌++◌, None, Some, IfSome, arith, length, take, sym, ap, ◌∙◌, subst, append-nil, length-take-le}
use Rattle.std.specs.declared.option.Option.{Option}
use Rattle.std.specs.Io.KnownBytes.{Consumes, IsAtEnd, Appends}
use native.Mathlib.Decide.{dec_lt}
use lib.ListN.{length-append}
use Rattle.card_text.specs.Print.{printed}
use Rattle.card_text.proofs.Printed.{printed_long}

-- two inputs that are both too long are answered alike
long_alike : (a b : List ℕ) → 32768 < length a → 32768 < length b → printed a ≡ printed b
long_alike a b l m = sym (printed_long a l) ∙ printed_long b m

pub whole_printed : (before after old new : Option (List ℕ)) (n : ℕ) (area : List ℕ) → n ≤ length area → 32768 < length area
    → Consumes before after (take n area) → (n < length area → IsAtEnd after) → Appends old new (printed (take n area))
    → IfSome before (λ bytes. Appends old new (printed bytes))
whole_printed None after old new n area within long read end put = tt
whole_printed (Some xs) None old new n area within long read end put = absurd read
whole_printed (Some xs) (Some ys) old new n area within long read end put =
    elim (dec_lt n (length area)) [
      | yes less ↦ subst (λ (bytes : List ℕ). Appends old new (printed bytes)) (sym (read ∙ ap (λ (l : List ℕ). take n area ++ l) (end less) ∙ append-nil (take n area))) put
      | no full ↦
          let taken : length (take n area) ≡ n = length-take-le n area within in
          let all : length xs ≡ length (take n area) + length ys = ap length read ∙ length-append (take n area) ys in
          subst (λ (bytes : List ℕ). Appends old new bytes) (long_alike (take n area) xs (omega arith) (omega arith)) put
    ]
