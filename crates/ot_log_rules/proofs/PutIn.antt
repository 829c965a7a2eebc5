-- Substitutions put into sequents, against the case.
use Rattle.std.specs.Prelude.{Result, IfOk}
use Rattle.std.specs.List.{list_all}
use Rattle.std.proofs.Common.{◌≡◌, ℕ, Bool, true, false, List, [], map, nat_eq, Some, Ok, Err, sym, ap, ◌∙◌}
use Rattle.ot_logic.specs.Names.{Name}
use Rattle.ot_logic.specs.Naming.{names}
use Rattle.ot_logic.specs.Table.{Extends, IsInjective}
use Rattle.ot_logic.specs.Trees.{Ty, Tm}
use Rattle.ot_logic.specs.Hol.{same_ty, type_in, TypeMap, TermMap, subst_tm, once_each, sequent_of}
use Rattle.ot_logic.specs.Rules.{has_type}
use Rattle.ot_logic.specs.declared.memory.Memory.{Memory}
use Rattle.ot_laws.proofs.Tests.{tells_names}
use Rattle.ot_log_format.specs.Tokens.{BadStep}
use Rattle.ot_log_format.specs.Steps.{Step, first_pairs, first_types, subst_step}
use Rattle.ot_log_nodes.specs.Items.{Item, term_at}
use Rattle.ot_log_nodes.specs.Changing.{Putting, type_map, term_map, HasTypes, HasTerms}
use Rattle.ot_log_nodes.specs.declared.node.VariableNode.{VariableNode}
use Rattle.ot_log_nodes.proofs.ItemLemmas.{term-stays}
use Rattle.ot_log_nodes.proofs.MapLemmas.{variable_eq, type_map-stays, term_map-stays}
use Rattle.ot_log_rules.specs.Statements.{terms_at, sequent_at, HasStatement}
use Rattle.ot_log_rules.specs.Putting.{firsts, IsChanged, IsPut}
use Rattle.ot_log_rules.specs.declared.statement.Statement.{Statement}
use Rattle.ot_log_rules.proofs.Cases.{refused, passed}
use Rattle.ot_log_format.proofs.Firsts.{subst-first, subst-first_types}
use Rattle.ot_log_rules.proofs.Staying.{terms-stay}
use Rattle.ot_log_rules.proofs.Substituting.{types-firsts, terms-firsts, first_types-numbers, first_pairs-numbers}

-- a change that puts a substitution in
pub put-is : (ts us : List Item) (types : List (ℕ × ℕ)) (terms : List (VariableNode × ℕ)) (a : Statement)
    (r : Result Statement Memory)
    → IfOk r (IsChanged ts us (Putting (type_map ts types) (term_map ts terms)) a)
    → IfOk r (IsPut ts us types terms a)
put-is ts us types terms a (Ok q) h = record { has = h.has; hyps = h.hyps; concl = h.concl }
put-is ts us types terms a (Err e) h = tt

-- a term's type is the type, or another
pub has_type-same : (t : Tm Name) (a ty : Ty Name) → type_in names [] t ≡ Some a
    → has_type names t ty ≡ same_ty names a ty
has_type-same t a ty p = rw p

module _ (ts : List Item) (one : IsInjective ts) (types : List (ℕ × ℕ)) (terms : List (VariableNode × ℕ))
    (has_types : HasTypes ts types) (has_terms : HasTerms ts terms) (a : Statement) where
  abbrev whole_types : TypeMap names
  whole_types = type_map ts types

  abbrev whole_terms : TermMap names
  whole_terms = term_map ts terms

  abbrev is_typed : TermMap names → Bool
  is_typed m = list_all (λ p. has_type names p.1 p.0.ty) m

  abbrev subst_conclusion : Unit {0} → Step names
  subst_conclusion u =
      Ok (record {
        hyps = once_each names
            (map (subst_tm names whole_types (first_pairs names whole_terms)) (terms_at ts a.hyps.items));
        concl =
            subst_tm names whole_types (first_pairs names whole_terms) (term_at ts a.concl);
      })

  pub subst-refused : (b : Bool) → b ≡ is_typed (term_map ts (firsts variable_eq terms)) → b ≡ false
      → subst_step names whole_types whole_terms (sequent_at ts a) ≡ Err BadStep
  subst-refused b test contrary = refused (is_typed (first_pairs names whole_terms)) subst_conclusion
      (sym (ap is_typed (first_pairs-numbers ts one terms has_terms)) ∙ sym test ∙ contrary)

  pub subst-made : (us vs : List Item) → Extends ts us → HasStatement ts a → (b : Bool) (q : Statement)
      → b ≡ is_typed (term_map ts (firsts variable_eq terms)) → b ≡ true
      → IsPut us vs (firsts nat_eq types) (firsts variable_eq terms) a q
      → HasStatement vs q × (subst_step names whole_types whole_terms (sequent_at ts a) ≡ Ok (sequent_at vs q))
  subst-made us vs e ha b q test so put =
      let s : type_map us (firsts nat_eq types) ≡ first_types names whole_types =
      type_map-stays ts us e (firsts nat_eq types) (types-firsts ts one types has_types)
      ∙ first_types-numbers ts one types has_types in
      let m : term_map us (firsts variable_eq terms) ≡ first_pairs names whole_terms =
      term_map-stays ts us e (firsts variable_eq terms) (terms-firsts ts one terms has_terms)
      ∙ first_pairs-numbers ts one terms has_terms in
      let same : (t : Tm Name)
      → subst_tm names (type_map us (firsts nat_eq types)) (term_map us (firsts variable_eq terms)) t
      ≡ subst_tm names whole_types (first_pairs names whole_terms) t =
      λ t. (λ i. subst_tm names (s i) (m i) t)
      ∙ subst-first_types names tells_names whole_types (first_pairs names whole_terms) t in
      let hyps : terms_at vs q.hyps.items ≡ once_each names
      (map (subst_tm names whole_types (first_pairs names whole_terms)) (terms_at ts a.hyps.items)) =
      put.hyps ∙ (λ i. once_each names (map (λ t. same t i) (terms-stay ts us e a.hyps.items ha.hyps i))) in
      let concl : term_at vs q.concl ≡ subst_tm names whole_types (first_pairs names whole_terms) (term_at ts a.concl) =
      put.concl ∙ same (term_at us a.concl) ∙ ap (subst_tm names whole_types (first_pairs names whole_terms))
      (term-stays ts us e a.concl ha.concl) in (
        put.has,
        passed (is_typed (first_pairs names whole_terms)) subst_conclusion
            (sym (ap is_typed (first_pairs-numbers ts one terms has_terms)) ∙ sym test ∙ so)
            ∙ (λ i. Ok (record { hyps = sym hyps i; concl = sym concl i })),
      )

-- constants for variables, put into a conclusion without hypotheses
pub constants-put : (us vs : List Item) (one : IsInjective us) (terms : List (VariableNode × ℕ)) (m : TermMap names)
    (a q : Statement) (es : List (ℕ × ℕ)) → HasTerms us terms → term_map us terms ≡ m → a.hyps.items ≡ [] → es ≡ []
    → IsPut us vs es (firsts variable_eq terms) a q
    → sequent_at vs q ≡ sequent_of names (subst_tm names [] m (term_at us a.concl))
constants-put us vs one terms m a q es has is none contrary put =
    let hyps : terms_at vs q.hyps.items ≡ [] =
    put.hyps ∙ ap
    (λ l. once_each names
    (map (subst_tm names (type_map us es) (term_map us (firsts variable_eq terms))) (terms_at us l))) none in
    let pairs : term_map us (firsts variable_eq terms) ≡ first_pairs names m = first_pairs-numbers us one terms has
    ∙ ap (first_pairs names) is in
    let concl : term_at vs q.concl ≡ subst_tm names [] m (term_at us a.concl) =
    put.concl ∙ (λ i. subst_tm names (type_map us (contrary i)) (pairs i) (term_at us a.concl))
    ∙ subst-first names tells_names [] m (term_at us a.concl) in
    λ i. record { hyps = hyps i; concl = concl i }
