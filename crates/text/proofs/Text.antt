-- Texts that grow at the front: nothing, and two pieces one after the other.
-- Assumes nothing.
use Rattle.std.proofs.Common.{List, ◌++◌, ℕ, [], length-append, append_assoc, arith, refl, ap, sym, ◌∙◌, drop}
use Rattle.text.specs.declared.area.Text.{Text}
use Rattle.text.specs.Text.{Put}

pub put_none : (a : Text) → Put a [] a
put_none a = record { same_reference = refl; front = record { long = refl; room = omega arith; text = refl } }

pub put_more : (a : Text) (x : List ℕ) (b : Text) (y : List ℕ) (c : Text) → Put a x b → Put b y c → Put a (y ++ x) c
put_more a x b y c p q =
    record {
      same_reference = q.same_reference ∙ p.same_reference;
      front =
          record {
            long = q.front.long ∙ p.front.long;
            room = omega (arith, p.front.room, q.front.room, length-append y x);
            text = q.front.text ∙ ap (λ z. y ++ z) p.front.text ∙ sym (append_assoc y x (drop a.begin a.area.now));
          };
    }
