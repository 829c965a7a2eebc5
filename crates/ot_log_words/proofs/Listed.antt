-- Records that name lists.
use Rattle.std.specs.List.{All, flat_map}
use Rattle.std.proofs.Common.{◌≡◌, ℕ, List, [], ◌∷◌, ◌++◌, map, length, Ok, refl, sym, ap, subst, ◌∙◌}
use Rattle.std.proofs.lemmas.List.{map-append, length-map}
use Rattle.std.proofs.lemmas.List.Elements.{All-nil, All-cons, All-head, All-tail, All-append}
use Rattle.ot_logic.specs.Names.{Name}
use Rattle.ot_logic.specs.Naming.{names}
use Rattle.ot_logic.specs.Table.{Extends}
use Rattle.ot_logic.specs.Trees.{Ty, Tm, Variable}
use Rattle.ot_logic.specs.Answers.{◌>>=◌}
use Rattle.ot_logic.specs.Rules.{subst_rule}
use Rattle.ot_logic.specs.declared.command.Cmd.TheVariants as words
use Rattle.ot_log_format.specs.Steps.{assumption_step, subst_step}
use Rattle.ot_log_format.specs.declared.word.RecordWord.TheVariants as records
use Rattle.ot_log_records.specs.Entries.{ATerm, Count, AName, AType, ASequent}
use Rattle.ot_log_records.specs.Expansions.{type_pair, term_pair, subst_entry, by_text, assumption_entry}
use Rattle.ot_log_nodes.specs.Items.{Item, HasName, HasType, HasTerm, name_at, type_at, term_at}
use Rattle.ot_log_nodes.specs.Changing.{variable_at, type_map, term_map, HasVariable, HasTypes, HasTerms}
use Rattle.ot_log_nodes.specs.declared.node.VariableNode.{VariableNode}
use Rattle.ot_log_rules.specs.Statements.{terms_at, sequent_at, Gives}
use Rattle.ot_log_rules.specs.declared.statement.Statement.{Statement}
use Rattle.ot_kernel.specs.Axioms.{axiom_rule}
use Rattle.ot_log_page.specs.Sheets.{Adds, HasOperand, operand_at, entry_at}
use Rattle.ot_log_page.specs.declared.sheet.Sheet.{Sheet}
use Rattle.ot_log_page.specs.declared.operand.Operand as code
use Rattle.ot_log_page.specs.declared.operand.Operand.TheVariants as operand
use Rattle.ot_machine.specs.Objects.{Objects, list, term, theorem}
use Rattle.ot_machine.specs.Places.{as_each, as_term}
use Rattle.ot_machine.specs.Substitutions.{maps_of}
use Rattle.ot_log_law.specs.Derived.{theorem_entries, read}
use Rattle.ot_log_words.specs.Listing.{type_operands, term_operands}
use Rattle.ot_log_words.specs.Recording.{IsTheoremOf, Records}
use Rattle.ot_log_words.proofs.Recorded.{adds-grown, axiom-value, subst-value}

-- ---- numbers of the table

module _ (ts : List Item) where
  pub has-terms : (is : List ℕ) → All (HasTerm ts) is → All (HasOperand ts) (map operand.Term is)
  has-terms [] h = All-nil (HasOperand ts)
  has-terms (i ∷ is) h =
      All-cons (HasOperand ts) (operand.Term i) (map operand.Term is) (All-head (HasTerm ts) i is h)
      (has-terms is (All-tail (HasTerm ts) i is h))

  pub has-types : (ps : List (ℕ × ℕ)) → HasTypes ts ps → All (HasOperand ts) (flat_map type_operands ps)
  has-types [] h = All-nil (HasOperand ts)
  has-types (p ∷ ps) h =
      let P : ℕ × ℕ → Type 0 = λ p. HasName ts p.0 × HasType ts p.1 in
      let here = All-head P p ps h in
      let rest = has-types ps (All-tail P p ps h) in
      All-cons (HasOperand ts) (operand.Name p.0) (operand.Type p.1 ∷ flat_map type_operands ps) here.0
      (All-cons (HasOperand ts) (operand.Type p.1) (flat_map type_operands ps) here.1 rest)

  pub has-pairs : (ps : List (VariableNode × ℕ)) → HasTerms ts ps → All (HasOperand ts) (flat_map term_operands ps)
  has-pairs [] h = All-nil (HasOperand ts)
  has-pairs (p ∷ ps) h =
      let P : VariableNode × ℕ → Type 0 = λ p. HasVariable ts p.0 × HasTerm ts p.1 in
      let here = All-head P p ps h in
      let rest = has-pairs ps (All-tail P p ps h) in
      All-cons (HasOperand ts) (operand.Name p.0.name)
      (operand.Type p.0.ty ∷ operand.Term p.1 ∷ flat_map term_operands ps)
      here.0.0
      (All-cons (HasOperand ts) (operand.Type p.0.ty) (operand.Term p.1 ∷ flat_map term_operands ps) here.0.1
      (All-cons (HasOperand ts) (operand.Term p.1) (flat_map term_operands ps) here.1 rest))

  pub has-assumption : (p k : ℕ) (is : List ℕ) (ops : List code.Operand)
      → ops ≡ operand.Term p ∷ operand.Count k ∷ map operand.Term is → HasTerm ts p → All (HasTerm ts) is
      → All (HasOperand ts) ops
  has-assumption p k is ops e h l =
      subst (All (HasOperand ts)) (sym e)
      (All-cons (HasOperand ts) (operand.Term p) (operand.Count k ∷ map operand.Term is) h
      (All-cons (HasOperand ts) (operand.Count k) (map operand.Term is) tt (has-terms is l)))

  pub has-subst : (i k m : ℕ) (types : List (ℕ × ℕ)) (terms : List (VariableNode × ℕ)) (ops : List code.Operand)
      → ops ≡ operand.Sequent i ∷ operand.Count k
      ∷ (flat_map type_operands types ++ operand.Count m ∷ flat_map term_operands terms)
      → HasTypes ts types → HasTerms ts terms → All (HasOperand ts) ops
  has-subst i k m types terms ops e h l =
      subst (All (HasOperand ts)) (sym e)
      (All-cons (HasOperand ts) (operand.Sequent i)
      (operand.Count k ∷ (flat_map type_operands types ++ operand.Count m ∷ flat_map term_operands terms)) tt
      (All-cons (HasOperand ts) (operand.Count k)
      (flat_map type_operands types ++ operand.Count m ∷ flat_map term_operands terms)
      tt
      (All-append (HasOperand ts) (flat_map type_operands types) (operand.Count m ∷ flat_map term_operands terms)
      (has-types types h)
      (All-cons (HasOperand ts) (operand.Count m) (flat_map term_operands terms) tt (has-pairs terms l)))))

  -- ---- what they stand for

  pub terms-operands : (is : List ℕ) → map (operand_at ts) (map operand.Term is) ≡ map ATerm (map (term_at ts) is)
  terms-operands [] = refl
  terms-operands (i ∷ is) = ap (λ l. ATerm (term_at ts i) ∷ l) (terms-operands is)

  types-operands : (ps : List (ℕ × ℕ)) → map (operand_at ts) (flat_map type_operands ps)
      ≡ flat_map type_pair (type_map ts ps)
  types-operands [] = refl
  types-operands (p ∷ ps) = ap (λ l. AName (name_at ts p.0) ∷ AType (type_at ts p.1) ∷ l) (types-operands ps)

  pairs-operands : (ps : List (VariableNode × ℕ))
      → map (operand_at ts) (flat_map term_operands ps) ≡ flat_map term_pair (term_map ts ps)
  pairs-operands [] = refl
  pairs-operands (p ∷ ps) =
      ap (λ l. AName (name_at ts p.0.name) ∷ AType (type_at ts p.0.ty) ∷ ATerm (term_at ts p.1) ∷ l)
      (pairs-operands ps)

  pub assumption-is : (p : ℕ) (sorted : List ℕ) (hyps : List (Tm Name)) (ops : List code.Operand)
      → ops ≡ operand.Term p ∷ operand.Count (length sorted) ∷ map operand.Term sorted → map (term_at ts) sorted
      ≡ by_text hyps
      → entry_at ts records.Assumption ops ≡ assumption_entry hyps (term_at ts p)
  assumption-is p sorted hyps ops e s =
      ap (entry_at ts records.Assumption) e
      ∙ (λ i. record { word = records.Assumption; operands = ATerm (term_at ts p) ∷ Count (long i) ∷ all i })
    where
      long : length sorted ≡ length (by_text hyps)
      long = sym (length-map sorted (term_at ts)) ∙ ap length s

      all : map (operand_at ts) (map operand.Term sorted) ≡ map ATerm (by_text hyps)
      all = terms-operands sorted ∙ ap (map ATerm) s

  pub subst-is : (i : ℕ) (types : List (ℕ × ℕ)) (terms : List (VariableNode × ℕ)) (ops : List code.Operand)
      → ops ≡ operand.Sequent i ∷ operand.Count (length types)
      ∷ (flat_map type_operands types ++ operand.Count (length terms) ∷ flat_map term_operands terms)
      → entry_at ts records.Subst ops ≡ subst_entry (type_map ts types) (term_map ts terms) i
  subst-is i types terms ops e =
      ap (entry_at ts records.Subst) e
      ∙ (λ j. record { word = records.Subst; operands = ASequent i ∷ Count (long j) ∷ all j })
    where
      long : length types ≡ length (type_map ts types)
      long = sym (length-map {B = Name × Ty Name} types (λ p. (name_at ts p.0, type_at ts p.1)))

      all : map (operand_at ts)
          (flat_map type_operands types ++ operand.Count (length terms) ∷ flat_map term_operands terms)
          ≡ flat_map type_pair (type_map ts types) ++ Count (length (term_map ts terms))
          ∷ flat_map term_pair (term_map ts terms)
      all = map-append (operand_at ts) (flat_map type_operands types)
          (operand.Count (length terms) ∷ flat_map term_operands terms)
          ∙ (λ j. types-operands types j ++ Count (sym (length-map {B = Variable Name × Tm Name}
          terms (λ p. (variable_at ts p.0, term_at ts p.1))) j) ∷ pairs-operands terms j)

-- ---- the records

module _ (ts us : List Item) (e : Extends ts us) (a b : Sheet) (n : ℕ) (q : Statement) where
  pub axiom-records : (hyps : List ℕ) (p : ℕ) (ops : List code.Operand) (os : Objects)
      → entry_at ts records.Assumption ops ≡ assumption_entry (terms_at ts hyps) (term_at ts p)
      → Adds ts ts a b (λ x. entry_at ts records.Assumption ops ∷ []) n
      → Gives (Ok q) (assumption_step names (terms_at ts hyps) (term_at ts p)) us
      → as_each as_term os ≡ Ok (terms_at ts hyps)
      → Records ts us a b words.Axiom (list os ∷ term (term_at ts p) ∷ []) [] (record { statement = q; number = n })
  axiom-records hyps p ops os is A g r =
      let hs = terms_at ts hyps in
      let t = term_at ts p in record {
        adds = adds-grown ts us a b (λ x. theorem_entries x.sequents words.Axiom (list os ∷ term t ∷ []) []) n e
            (subst (λ z. Adds ts ts a b (λ x. read (λ hyps. assumption_entry hyps t ∷ []) z) n) (sym r)
            (subst (λ z. Adds ts ts a b (λ x. z ∷ []) n) is A));
        has = g.0;
        value = subst (λ z. IsTheoremOf (z >>= λ hyps. axiom_rule hyps t >>= λ q. Ok (theorem q)) (sequent_at us q))
            (sym r)
            (axiom-value hs t (sequent_at us q) g.1);
      }

  pub subst-records : (types : List (ℕ × ℕ)) (terms : List (VariableNode × ℕ)) (th : Statement) (i : ℕ)
      (ops : List code.Operand)
      (os : Objects) → entry_at ts records.Subst ops ≡ subst_entry (type_map ts types) (term_map ts terms) i
      → Adds ts ts a b (λ x. entry_at ts records.Subst ops ∷ []) n
      → Gives (Ok q) (subst_step names (type_map ts types) (term_map ts terms) (sequent_at ts th)) us
      → maps_of os ≡ Ok (type_map ts types, term_map ts terms)
      → Records ts us a b words.Subst (list os ∷ theorem (sequent_at ts th) ∷ []) (i ∷ [])
      (record { statement = q; number = n })
  subst-records types terms th i ops os is A g r =
      let s = type_map ts types in
      let m = term_map ts terms in
      let one = sequent_at ts th in record {
        adds = adds-grown ts us a b
            (λ x. theorem_entries x.sequents words.Subst (list os ∷ theorem one ∷ []) (i ∷ [])) n e
            (subst (λ z. Adds ts ts a b (λ x. read (λ maps. subst_entry maps.0 maps.1 i ∷ []) z) n) (sym r)
            (subst (λ z. Adds ts ts a b (λ x. z ∷ []) n) is A));
        has = g.0;
        value = subst (λ z. IsTheoremOf (z >>= λ maps. subst_rule names maps.0 maps.1 one >>= λ q. Ok (theorem q))
            (sequent_at us q)) (sym r) (subst-value s m one (sequent_at us q) g.1);
      }
