-- Laws of a chain's words: two for each link, joined as the links are, and different for different chains.
use Prim.Native.Nat.{ℕ, ◌+◌, ◌*◌, ◌^◌, ◌<◌}
use mathlib.Core.Path.{◌≡◌, refl, sym, ◌∙◌, ap}
use mathlib.Core.List.{[], ◌∷◌, ◌++◌, append_assoc}
use native.Mathlib.Omega.{arith}
use lib.ListN.{length, length-append}
use Rattle.general.specs.Tests.{All}
use Rattle.chains.specs.Link.{Link, touch_link, untouched_link, Chain, choice_word, link_words, Fits, chain_words}

link_length_lem : (l : Link) → length (link_words l) ≡ 2
link_length_lem (touch_link c i p) = refl
link_length_lem (untouched_link c i) = refl

-- "A link is two words"
pub words_length : (ls : Chain) → length (chain_words ls) ≡ 2 * length ls
unfolding chain_words
words_length [] = omega arith
words_length (l ∷ ls) = omega (arith, length-append (link_words l) (chain_words ls), link_length_lem l, words_length ls)

pub words_append : (ls ms : Chain) → chain_words (ls ++ ms) ≡ chain_words ls ++ chain_words ms
unfolding chain_words
words_append [] ms = refl
words_append (l ∷ ls) ms =
    ap (λ ws. link_words l ++ ws) (words_append ls ms) ∙ sym (append_assoc (link_words l) (chain_words ls) (chain_words ms))

choice_same : (c i d j : ℕ) → c < 2 ^ 8 → d < 2 ^ 8 → choice_word c i ≡ choice_word d j → (c ≡ d) × (i ≡ j)
choice_same c i d j lc ld e = (omega arith, omega arith)

-- chains whose links fit are equal where their words are
pub words_same : (ls ms : Chain) → All Fits ls → All Fits ms → chain_words ls ≡ chain_words ms → ls ≡ ms
unfolding chain_words
words_same [] [] fl fm e = refl
words_same [] (touch_link d j r ∷ ms) fl fm e = let z : ◌≡◌ {A = ℕ} 0 1 = cc in absurd (omega arith)
words_same [] (untouched_link d j ∷ ms) fl fm e = let z : ◌≡◌ {A = ℕ} 0 1 = cc in absurd (omega arith)
words_same (touch_link c i p ∷ ls) [] fl fm e = let z : ◌≡◌ {A = ℕ} 0 1 = cc in absurd (omega arith)
words_same (untouched_link c i ∷ ls) [] fl fm e = let z : ◌≡◌ {A = ℕ} 0 1 = cc in absurd (omega arith)
words_same (touch_link c i p ∷ ls) (touch_link d j r ∷ ms) fl fm e =
    let first : choice_word c i ≡ choice_word d j = cc in
    let second : 11 * 2 ^ 28 + p ≡ 11 * 2 ^ 28 + r = cc in
    let rest : chain_words ls ≡ chain_words ms = cc in
    let same = choice_same c i d j fl.0.0 fm.0.0 first in
    let same_c = same.0 in
    let same_i = same.1 in
    let same_p : p ≡ r = omega arith in
    let same_rest = words_same ls ms fl.1 fm.1 rest in
    cc
words_same (untouched_link c i ∷ ls) (untouched_link d j ∷ ms) fl fm e =
    let first : choice_word c i ≡ choice_word d j = cc in
    let rest : chain_words ls ≡ chain_words ms = cc in
    let same = choice_same c i d j fl.0.0 fm.0.0 first in
    let same_c = same.0 in
    let same_i = same.1 in
    let same_rest = words_same ls ms fl.1 fm.1 rest in
    cc
words_same (touch_link c i p ∷ ls) (untouched_link d j ∷ ms) fl fm e =
    let second : 11 * 2 ^ 28 + p ≡ 12 * 2 ^ 28 = cc in
    let low = fl.0.2 in
    absurd (omega arith)
words_same (untouched_link c i ∷ ls) (touch_link d j r ∷ ms) fl fm e =
    let second : 12 * 2 ^ 28 ≡ 11 * 2 ^ 28 + r = cc in
    let low = fm.0.2 in
    absurd (omega arith)
