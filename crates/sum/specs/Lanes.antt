-- Words in four lanes, and the sums of all words from those of the lanes: the form that the loop by fours follows.
use Rattle.std.specs.Prelude.{◌≡◌, ℕ, ◌+◌, ◌*◌, ◌%◌, ◌^◌}
use Rattle.sum.specs.declared.sums.Sums.{Sums}

-- two numbers as sums with wrap
abbrev pub wrapped : ℕ → ℕ → Sums
wrapped s b = record { running = s % 2 ^ 32; values = b % 2 ^ 32 }

-- Words in four lanes: a has the sums of the first word and every fourth after it, b of the second and every fourth after it, and so c and d.
-- The fields are what these sums are without wrap, and of all words the running sum and the sum of its values
pub record Lanes (a b c d : Sums) : Type 0 where
  pub running₀ : ℕ
  pub running₁ : ℕ
  pub running₂ : ℕ
  pub running₃ : ℕ
  pub values₀ : ℕ
  pub values₁ : ℕ
  pub values₂ : ℕ
  pub values₃ : ℕ
  pub running : ℕ
  pub values : ℕ
  pub first : a ≡ wrapped running₀ values₀
  pub second : b ≡ wrapped running₁ values₁
  pub third : c ≡ wrapped running₂ values₂
  pub fourth : d ≡ wrapped running₃ values₃
  pub together : running ≡ running₀ + running₁ + running₂ + running₃
  -- a word that the values of its lane have taken in t times has been taken in 4 × t times by those of all words, less 1, 2 or 3 in the second,
  -- third and fourth lane: when it came, as many of its four were before it
  pub weighed : 4 * (values₀ + values₁ + values₂ + values₃) ≡ values + running₁ + 2 * running₂ + 3 * running₃

-- the sums of all words, of words in four lanes
abbrev pub Joined : Sums → Sums → Sums → Sums → Sums → Type 0
Joined a b c d sums = (lanes : Lanes a b c d) → sums ≡ wrapped lanes.running lanes.values
