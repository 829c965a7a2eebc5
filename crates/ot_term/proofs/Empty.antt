-- The table without types and terms.
use Rattle.std.proofs.Common.{◌≡◌, ℕ, List, [], refl, sym, subst}
use Rattle.std.proofs.lemmas.Option.{none-some}
use Rattle.ot_logic.specs.Trees.{Ty}
use Rattle.ot_logic.specs.Table.{IsInjective}
use Rattle.ot_class.specs.Class.{ClassTable}
use Rattle.ot_term.specs.TermTable.{terms_of, IsTermSound}
use Rattle.ot_term.specs.declared.table.NodeInfo.{NodeInfo}
use Rattle.ot_term.specs.declared.term.TermNode.{TermNode}

none-twice : {X : Type 0} → IsInjective {X = X} []
none-twice = record { same = λ i j x p q. absurd (none-some x p) }

nothing : IsTermSound [] (record { shapes = []; lists = []; maps = [] }) [] []
nothing = record {
  nodes = record {
    same_length = refl;
    entries = λ i n d p. absurd (none-some _ p);
    injective = none-twice;
  };
  forms = record { shapes = none-twice; lists = none-twice; maps = none-twice };
  table = record {
    types = record { injective = none-twice; shallow = λ i t p. absurd (none-some t p) };
    injective = none-twice;
    typed = λ i u p. absurd (none-some u p);
    limit = λ i u p. absurd (none-some u p);
    classed = refl;
    alike = λ i j c d p q. absurd (none-some c p);
  };
}

pub sound-empty : (tys : List (Ty ℕ)) (cs : ClassTable) (es : List (TermNode × NodeInfo)) → tys ≡ []
    → cs ≡ record { shapes = []; lists = []; maps = [] } → es ≡ [] → IsTermSound tys cs es (terms_of tys es)
sound-empty tys cs es types classes nodes =
    subst (λ (es : List (TermNode × NodeInfo)). IsTermSound tys cs es (terms_of tys es)) (sym nodes)
    (subst (λ (cs : ClassTable). IsTermSound tys cs [] []) (sym classes)
    (subst (λ (tys : List (Ty ℕ)). IsTermSound tys (record { shapes = []; lists = []; maps = [] }) [] []) (sym types)
    nothing))
