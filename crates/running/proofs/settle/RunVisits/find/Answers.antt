-- `running::settle::RunVisits::find` meets its contract.
-- Assumes nothing.
use Rattle.std.proofs.Common.{Bool, true, false, not, ◌&&◌, sym, ap, ◌∙◌, ap₂, arith}
use Rattle.running.proofs.Visited.{gives, visit_made}
use Rattle.running.proofs.settle.RunVisits.find.Goals as goal

pub returns-then-contains : goal.returns-then-contains
returns-then-contains c =
    let v = c.args.self.now in
    visit_made v.part.now v.places.now c.args.runs.now c.args.c (omega (arith, v.visitable.few, c.requires.0, c.requires.1))
    (omega (arith, v.visitable.few, c.requires.0, c.requires.1)) false
    (ap (λ (b : Bool). not b && gives v.part.now v.places.now c.args.runs.now c.args.c) (sym c.contains.ensures ∙ c.if-contains.true))

pub returns-then-new : goal.returns-then-new
returns-then-new c =
    let v = c.args.self.now in
    rw (c.insert.ensures, c.if-new.true)
    (visit_made v.part.now v.places.now c.args.runs.now c.args.c (omega (arith, v.visitable.few, c.requires.0, c.requires.1))
    (omega (arith, v.visitable.few, c.requires.0, c.requires.1)) true
    (ap₂ (λ (x y : Bool). not x && y) (sym c.contains.ensures ∙ c.if-contains.false) (sym c.gives_run-new.ensures ∙ c.if-new.true)))

pub returns-else-new : goal.returns-else-new
returns-else-new c =
    let v = c.args.self.now in
    rw c.if-new.false
    (visit_made v.part.now v.places.now c.args.runs.now c.args.c (omega (arith, v.visitable.few, c.requires.0, c.requires.1))
    (omega (arith, v.visitable.few, c.requires.0, c.requires.1)) false
    (ap₂ (λ (x y : Bool). not x && y) (sym c.contains.ensures ∙ c.if-contains.false) (sym c.gives_run-new.ensures ∙ c.if-new.false)))
