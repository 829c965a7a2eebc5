-- Sequents and definitions by number, in a table that grows.
use Rattle.std.specs.List.{All}
use Rattle.std.proofs.Common.{◌≡◌, ℕ, List, [], ◌∷◌, map, refl}
use Rattle.std.proofs.lemmas.List.Elements.{All-head, All-tail, All-weaker}
use Rattle.ot_logic.specs.Table.{Extends}
use Rattle.ot_logic.specs.Trees.{ConDef, ListDef, TyDef}
use Rattle.ot_log_nodes.specs.Items.{Item, HasName, HasTerm, name_at, term_at}
use Rattle.ot_log_nodes.specs.Changing.{variable_at, HasVariable}
use Rattle.ot_log_nodes.specs.declared.node.VariableNode.{VariableNode}
use Rattle.ot_log_nodes.proofs.ItemLemmas.{name-stays, term-stays, still-name, still-term}
use Rattle.ot_log_nodes.proofs.MapLemmas.{variable-stays, still-variable}
use Rattle.ot_log_rules.specs.Statements.{terms_at, sequent_at, HasStatement}
use Rattle.ot_log_rules.specs.Definitions.{pairs_at, HasPairs, names_at, definition_at, HasDefinition}
use Rattle.ot_log_rules.specs.declared.statement.Statement.{Statement}
use Rattle.ot_log_rules.specs.declared.definition.Definition as code
use Rattle.ot_log_rules.specs.declared.definition.Definition.TheVariants as kind

-- what agrees on each element agrees on the list
pub map-agree : {X Y : Type 0} (P : X → Type 0) (f g : X → Y) → ((x : X) → P x → g x ≡ f x) → (xs : List X) → All P xs
    → map g xs ≡ map f xs
map-agree P f g same [] h = refl
map-agree P f g same (x ∷ xs) h =
    let head = same x (All-head P x xs h) in
    let tail = map-agree P f g same xs (All-tail P x xs h) in
    λ i. head i ∷ tail i

module _ (ts us : List Item) (e : Extends ts us) where
  pub terms-stay : (is : List ℕ) → All (HasTerm ts) is → terms_at us is ≡ terms_at ts is
  terms-stay is h = map-agree (HasTerm ts) (term_at ts) (term_at us) (term-stays ts us e) is h

  pub still-terms : (is : List ℕ) → All (HasTerm ts) is → All (HasTerm us) is
  still-terms is h = All-weaker (HasTerm ts) (HasTerm us) (still-term ts us e) is h

  pub sequent-stays : (q : Statement) → HasStatement ts q → sequent_at us q ≡ sequent_at ts q
  sequent-stays q h =
      let hyps = terms-stay q.hyps.items h.hyps in
      let concl = term-stays ts us e q.concl h.concl in
      λ i. record { hyps = hyps i; concl = concl i }

  pub still-statement : (q : Statement) → HasStatement ts q → HasStatement us q
  still-statement q h = record { hyps = still-terms q.hyps.items h.hyps; concl = still-term ts us e q.concl h.concl }

  pub names-stay : (is : List ℕ) → All (HasName ts) is → names_at us is ≡ names_at ts is
  names-stay is h = map-agree (HasName ts) (name_at ts) (name_at us) (name-stays ts us e) is h

  pub still-names : (is : List ℕ) → All (HasName ts) is → All (HasName us) is
  still-names is h = All-weaker (HasName ts) (HasName us) (still-name ts us e) is h

  pub pairs-stay : (ps : List (ℕ × VariableNode)) → HasPairs ts ps → pairs_at us ps ≡ pairs_at ts ps
  pairs-stay ps h =
      map-agree (λ p. HasName ts p.0 × HasVariable ts p.1) (λ p. (name_at ts p.0, variable_at ts p.1))
      (λ p. (name_at us p.0, variable_at us p.1))
      (λ p k. let name = name-stays ts us e p.0 k.0 in let variable = variable-stays ts us e p.1 k.1 in
      λ i. (name i, variable i)) ps h

  pub still-pairs : (ps : List (ℕ × VariableNode)) → HasPairs ts ps → HasPairs us ps
  still-pairs ps h = All-weaker (λ p. HasName ts p.0 × HasVariable ts p.1) (λ p. HasName us p.0 × HasVariable us p.1)
      (λ p k. (still-name ts us e p.0 k.0, still-variable ts us e p.1 k.1)) ps h

  pub definition-stays : (d : code.Definition) → HasDefinition ts d → definition_at us d ≡ definition_at ts d
  definition-stays (kind.Constant n t) h =
      let name = name-stays ts us e n h.0 in
      let term = term-stays ts us e t h.1 in
      λ i. ConDef (name i) (term i)
  definition-stays (kind.Constants ps q) h =
      let pairs = pairs-stay ps.items h.0 in
      let premise = sequent-stays q h.1 in
      λ i. ListDef (pairs i) (premise i)
  definition-stays (kind.TypeOperator n abs rep vs q) h =
      let name = name-stays ts us e n h.0 in
      let to = name-stays ts us e abs h.1 in
      let from = name-stays ts us e rep h.2 in
      let vars = names-stay vs.items h.3 in
      let premise = sequent-stays q h.4 in
      λ i. TyDef (name i) (to i) (from i) (vars i) (premise i)

  pub still-definition : (d : code.Definition) → HasDefinition ts d → HasDefinition us d
  still-definition (kind.Constant n t) h = (still-name ts us e n h.0, still-term ts us e t h.1)
  still-definition (kind.Constants ps q) h = (still-pairs ps.items h.0, still-statement q h.1)
  still-definition (kind.TypeOperator n abs rep vs q) h = (
    still-name ts us e n h.0,
    still-name ts us e abs h.1,
    still-name ts us e rep h.2,
    still-names vs.items h.3,
    still-statement q h.4,
  )
