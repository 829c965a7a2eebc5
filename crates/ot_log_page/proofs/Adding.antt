-- Records that make sequents, one after another.
use Rattle.std.specs.Prelude.{◌-◌}
use Rattle.std.specs.List.{All}
use Rattle.std.proofs.Common.{◌≡◌, ℕ, suc, ◌+◌, Bool, true, false, cond, List}
use Rattle.std.proofs.Common.{[], ◌∷◌, map, refl, sym, ap, subst, ◌∙◌, arith}
use Rattle.std.proofs.lemmas.List.Elements.{All-head, All-tail}
use Rattle.ot_logic.specs.Trees.{Ty, Tm, Con, App}
use Rattle.ot_logic.specs.Naming.{names}
use Rattle.ot_logic.specs.Hol.{fun_ty, bool_ty}
use Rattle.ot_logic.proofs.TableLemmas.{Extends-trans}
use Rattle.ot_log_format.specs.declared.word.RecordWord.{RecordWord}
use Rattle.ot_logic.specs.Names.{Name}
use Rattle.ot_logic.specs.Table.{Extends}
use Rattle.ot_log_format.specs.declared.word.RecordWord.TheVariants as words
use Rattle.ot_log_nodes.specs.Items.{Item, IsType, HasType, HasTerm, name_at, type_at, term_at, first_items}
use Rattle.ot_log_nodes.proofs.ShapeLemmas.{name-equals}
use Rattle.ot_log_nodes.proofs.ItemLemmas.{type-is, type-stays, term-stays, still-type, still-term}
use Rattle.ot_log_records.specs.Entries.{Entry, Node, TypeNode, TermNode, type_entry, term_entry, nodes_before}
use Rattle.ot_log_records.specs.Logged.{Log, put, has_node, with_node, write_node}
use Rattle.ot_log_records.specs.Logged.{write_nodes, write_entry, count_sequent}
use Rattle.ot_log_records.specs.Logged.{write_sequents}
use Rattle.ot_log_records.specs.Expansions.{of_term, of_two, equals_at, sym_entries, trans_entries, prove_hyp_entries}
use Rattle.ot_log_page.specs.Sheets.{Shows, Moves, Adds}
use Rattle.ot_log_page.specs.declared.sheet.Sheet.{Sheet}

-- ---- the count of sequents

sequents-node : (n : Node) (x : Log) → (write_node n x).sequents ≡ x.sequents
sequents-node (TypeNode t) x = by (has_node (TypeNode t) x)
  where
    by : (b : Bool) → (cond b x (with_node (TypeNode t) (put (type_entry t) x))).sequents ≡ x.sequents
    by true = refl
    by false = refl
sequents-node (TermNode t) x = by (has_node (TermNode t) x)
  where
    by : (b : Bool) → (cond b x (with_node (TermNode t) (put (term_entry t) x))).sequents ≡ x.sequents
    by true = refl
    by false = refl

sequents-nodes : (ns : List Node) (x : Log) → (write_nodes ns x).sequents ≡ x.sequents
sequents-nodes [] x = refl
sequents-nodes (n ∷ ns) x = sequents-nodes ns (write_node n x) ∙ sequents-node n x

pub sequents-entry : (e : Entry) (x : Log) → (write_entry e x).sequents ≡ x.sequents
sequents-entry e x = sequents-nodes (nodes_before e) x

-- behind a record that makes a sequent
abbrev after : Entry → Log → Log
after e x = count_sequent (write_entry e x)

counted : (e : Entry) (x : Log) → (after e x).sequents ≡ x.sequents + 1
counted e x = ap suc (sequents-entry e x) ∙ plus
  where
    plus : suc x.sequents ≡ x.sequents + 1
    plus = omega arith

last : (e : Entry) (x : Log) → (after e x).sequents - 1 ≡ x.sequents
last e x = ap (λ k. k - 1) (counted e x) ∙ less
  where
    less : x.sequents + 1 - 1 ≡ x.sequents
    less = omega arith

-- ---- one record

pub adds-one : (ts : List Item) (old mid new : Sheet) (e : Entry) → Moves ts old mid (write_entry e)
    → Moves ts mid new count_sequent → Adds ts ts old new (λ x. e ∷ []) old.sequents
adds-one ts old mid new e m k = λ max x h. (k max (write_entry e x) (m max x h), h.sequents ∙ sym (last e x))

-- ---- a table that grows

types-stay : (ts us : List Item) → Extends ts us → (is : List ℕ) → All (HasType ts) is
    → map (type_at us) is ≡ map (type_at ts) is
types-stay ts us e [] h = refl
types-stay ts us e (i ∷ is) h =
    let a = type-stays ts us e i (All-head (HasType ts) i is h) in
    let b = types-stay ts us e is (All-tail (HasType ts) i is h) in
    λ k. a k ∷ b k

terms-stay : (ts us : List Item) → Extends ts us → (is : List ℕ) → All (HasTerm ts) is
    → map (term_at us) is ≡ map (term_at ts) is
terms-stay ts us e [] h = refl
terms-stay ts us e (i ∷ is) h =
    let a = term-stays ts us e i (All-head (HasTerm ts) i is h) in
    let b = terms-stay ts us e is (All-tail (HasTerm ts) i is h) in
    λ k. a k ∷ b k

pub shows-grown : (ts us : List Item) (max : ℕ) (s : Sheet) (x : Log) → Extends ts us → Shows ts max s x
    → Shows us max s x
shows-grown ts us max s x e h = record {
  text = h.text;
  types = types-stay ts us e s.types.keys h.has_types ∙ h.types;
  terms = terms-stay ts us e s.terms.keys h.has_terms ∙ h.terms;
  sequents = h.sequents;
  has_types = λ k d within. still-type ts us e _ (h.has_types k d within);
  has_terms = λ k d within. still-term ts us e _ (h.has_terms k d within);
  closed = h.closed;
}

-- ---- the words that stand for several records

pub sym-adds : (ts us : List Item) (a b c d e f : Sheet) (ty : Ty Name) (t : Tm Name) (i p q r s n : ℕ)
    → Extends ts us
    → Adds us us a b (λ x. of_term words.Refl (equals_at ty) ∷ []) p
    → Adds us us b c (λ x. of_two words.AppThm p i ∷ []) q
    → Adds us us c d (λ x. of_term words.Refl t ∷ []) r
    → Adds us us d e (λ x. of_two words.AppThm q r ∷ []) s → Adds us us e f (λ x. of_two words.EqMp s r ∷ []) n
    → Adds ts us a f (λ x. sym_entries x.sequents ty t i) n
sym-adds ts us a b c d e f ty t i p q r s n g A B C D E = λ max x h.
    let e1 = of_term words.Refl (equals_at ty) in
    let e2 = of_two words.AppThm p i in
    let e3 = of_term words.Refl t in
    let e4 = of_two words.AppThm q r in
    let e5 = of_two words.EqMp s r in
    let x1 = after e1 x in
    let x2 = after e2 x1 in
    let x3 = after e3 x2 in
    let x4 = after e4 x3 in
    let h1 = A max x (shows-grown ts us max a x g h) in
    let h2 = B max x1 h1.0 in
    let h3 = C max x2 h2.0 in
    let h4 = D max x3 h3.0 in
    let h5 = E max x4 h4.0 in
    let np : p ≡ x.sequents = h1.1 ∙ last e1 x in
    let nq : q ≡ x.sequents + 1 = h2.1 ∙ last e2 x1 ∙ counted e1 x in
    let nr : r ≡ x.sequents + 2 = h3.1 ∙ last e3 x2 ∙ counted e2 x1 ∙ ap (λ k. k + 1) (counted e1 x)
    ∙ two x.sequents in
    let ns : s ≡ x.sequents + 3 = h4.1 ∙ last e4 x3 ∙ counted e3 x2
    ∙ ap (λ k. k + 1) (counted e2 x1 ∙ ap (λ k. k + 1) (counted e1 x)) ∙ three x.sequents in
    let same : e1 ∷ e2 ∷ e3 ∷ e4 ∷ e5 ∷ [] ≡ sym_entries x.sequents ty t i = λ k. e1 ∷ of_two words.AppThm (np k) i
    ∷ e3
    ∷ of_two words.AppThm (nq k) (nr k) ∷ of_two words.EqMp (ns k) (nr k) ∷ [] in
    subst (λ es. Shows us max f (write_sequents es x) × (n ≡ (write_sequents es x).sequents - 1)) same h5
  where
    two : (k : ℕ) → k + 1 + 1 ≡ k + 2
    two k = omega arith

    three : (k : ℕ) → k + 1 + 1 + 1 ≡ k + 3
    three k = omega arith

pub trans-adds : (ts us : List Item) (a b c d : Sheet) (ty : Ty Name) (t : Tm Name) (i j p q n : ℕ) → Extends ts us
    → Adds us us a b (λ x. of_term words.Refl (App (equals_at ty) t) ∷ []) p
    → Adds us us b c (λ x. of_two words.AppThm p j ∷ []) q → Adds us us c d (λ x. of_two words.EqMp q i ∷ []) n
    → Adds ts us a d (λ x. trans_entries x.sequents ty t i j) n
trans-adds ts us a b c d ty t i j p q n g A B C = λ max x h.
    let e1 = of_term words.Refl (App (equals_at ty) t) in
    let e2 = of_two words.AppThm p j in
    let e3 = of_two words.EqMp q i in
    let x1 = after e1 x in
    let x2 = after e2 x1 in
    let h1 = A max x (shows-grown ts us max a x g h) in
    let h2 = B max x1 h1.0 in
    let h3 = C max x2 h2.0 in
    let np : p ≡ x.sequents = h1.1 ∙ last e1 x in
    let nq : q ≡ x.sequents + 1 = h2.1 ∙ last e2 x1 ∙ counted e1 x in
    let same : e1 ∷ e2 ∷ e3 ∷ [] ≡ trans_entries x.sequents ty t i j = λ k. e1 ∷ of_two words.AppThm (np k) j
    ∷ of_two words.EqMp (nq k) i ∷ [] in
    subst (λ es. Shows us max d (write_sequents es x) × (n ≡ (write_sequents es x).sequents - 1)) same h3

pub prove_hyp-adds : (us : List Item) (a b c : Sheet) (i j p n : ℕ)
    → Adds us us a b (λ x. of_two words.DeductAntisym i j ∷ []) p
    → Adds us us b c (λ x. of_two words.EqMp p i ∷ []) n
    → Adds us us a c (λ x. prove_hyp_entries x.sequents i j) n
prove_hyp-adds us a b c i j p n A B = λ max x h.
    let e1 = of_two words.DeductAntisym i j in
    let e2 = of_two words.EqMp p i in
    let x1 = after e1 x in
    let h1 = A max x h in
    let h2 = B max x1 h1.0 in
    let np : p ≡ x.sequents = h1.1 ∙ last e1 x in
    let same : e1 ∷ e2 ∷ [] ≡ prove_hyp_entries x.sequents i j = λ k. e1 ∷ of_two words.EqMp (np k) i ∷ [] in
    subst (λ es. Shows us max c (write_sequents es x) × (n ≡ (write_sequents es x).sequents - 1)) same h2

-- ---- the constant `=`

pub equals-tree : (ts ks ls ms : List Item) (ty b p r : ℕ) → Extends ts ks → Extends ks ls → Extends ls ms
    → Extends first_items ms → HasType ts ty → IsType ks b (bool_ty names)
    → IsType ls p (fun_ty names (type_at ks ty) (type_at ks b))
    → IsType ms r (fun_ty names (type_at ls ty) (type_at ls p))
    → Con (name_at ms 2) (type_at ms r) ≡ equals_at (type_at ts ty)
equals-tree ts ks ls ms ty b p r d e f first g B P R =
    let n = name-equals ms first in
    let t1 = type-stays ts ks d ty g in
    let t2 = type-stays ts ls (Extends-trans d e) ty g in
    let made : type_at ls p ≡ fun_ty names (type_at ts ty) (bool_ty names) = type-is ls p _ P
    ∙ (λ j. fun_ty names (t1 j) (type-is ks b _ B j)) in
    let whole : type_at ms r ≡ fun_ty names (type_at ts ty) (fun_ty names (type_at ts ty) (bool_ty names)) =
    type-is ms r _ R
    ∙ (λ j. fun_ty names (t2 j) (made j)) in
    λ k. Con (n k) (whole k)

pub adds-as : (us : List Item) (a b : Sheet) (w : RecordWord) (t u : Tm Name) (n : ℕ) → t ≡ u
    → Adds us us a b (λ x. of_term w t ∷ []) n → Adds us us a b (λ x. of_term w u ∷ []) n
adds-as us a b w t u n e h = subst (λ z. Adds us us a b (λ x. of_term w z ∷ []) n) e h
