use Rattle.std.specs.List.{list_any}
use Rattle.std.specs.Prelude.{nat_eq}
use Rattle.std.proofs.Common.{ℕ, List, ap, ◌∙◌}
use Rattle.ot_term.specs.TermTable.{term_at}
use Rattle.ot_term.proofs.FreeNamed.{named-is_free}
use Rattle.ot_term.proofs.table.Terms.is_free.Goals as goal

pub returns : goal.returns
returns c =
    let t = c.args.self.now in
    c.contains.ensures.value
    ∙ ap (λ (ks : List ℕ). list_any (λ j. nat_eq j c.args.v.now.ty) ks) c.deref.ensures.value
    ∙ named-is_free t.types c.types_of_name.ensures.table.types.injective c.args.v.now c.requires.ty
    (term_at t.terms c.args.id) c.in_ok-types.types.items c.in_ok-types.ensures.types
