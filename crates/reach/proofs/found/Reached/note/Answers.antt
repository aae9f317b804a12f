-- `reach::found::Reached::note` meets its contract.
-- Assumes nothing.
use Rattle.std.proofs.Common.{◌||◌, sym, ap₂, ◌∙◌, refl, arith}
use Rattle.reach.proofs.Queue.{new_room, new_queued, noted_new}
use Rattle.reach.proofs.found.Reached.note.Goals as goal

pub offset_bounds-self-self : goal.offset_bounds-self-self
offset_bounds-self-self c =
    let new = sym (ap₂ ◌||◌ c.contains.ensures c.contains-2.ensures) ∙ c.if-contains.false in
    record { fits = omega (arith, new_room c.args.self.now c.args.d c.requires new) }

pub bounds-self-self : goal.bounds-self-self
bounds-self-self c =
    let new = sym (ap₂ ◌||◌ c.contains.ensures c.contains-2.ensures) ∙ c.if-contains.false in
    omega (arith, new_room c.args.self.now c.args.d c.requires new)

pub overflow_add-self : goal.overflow_add-self
overflow_add-self c =
    let new = sym (ap₂ ◌||◌ c.contains.ensures c.contains-2.ensures) ∙ c.if-contains.false in
    record { fits = omega (arith, new_room c.args.self.now c.args.d c.requires new) }

pub invariant_of-self : goal.invariant_of-self
invariant_of-self c =
    let new = sym (ap₂ ◌||◌ c.contains.ensures c.contains-2.ensures) ∙ c.if-contains.false in
    record { queued = rw c.insert.ensures (new_queued c.args.self.now c.args.d c.requires new) }

pub returns : goal.returns
returns c =
    let new = sym (ap₂ ◌||◌ c.contains.ensures c.contains-2.ensures) ∙ c.if-contains.false in
    noted_new c.args.self.now c.args.d c.requires new _ refl refl c.insert.ensures refl refl
