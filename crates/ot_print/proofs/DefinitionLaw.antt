-- One text is the text of one definition, up to the order of the hypotheses of its premise.
use Rattle.std.specs.Prelude.{◌≡◌, ℕ, List, [], ◌∷◌, ◌++◌, codes}
use Rattle.std.proofs.Common.{refl, sym, ◌∙◌, ap}
use Rattle.std.proofs.lemmas.List.{append_cancel_left}
use Rattle.ot_logic.specs.Names.{Name}
use Rattle.ot_logic.specs.Naming.{names}
use Rattle.ot_logic.specs.Trees.{Variable, Tm, Sequent, Definition, ConDef, ListDef, TyDef}
use Rattle.ot_logic.specs.Hol.{IsWellTyped, IsSequent, type_of, sequent_of, subst_tm, constants_for, theorems_at}
use Rattle.ot_laws.proofs.Tests.{tells_names}
use Rattle.ot_laws.proofs.Hypotheses.{same_sequent-is}
use Rattle.ot_text.specs.Texts.{tm_text, sequent_text}
use Rattle.ot_text.specs.Sections.{theorems_text, definition_text}
use Rattle.ot_text.proofs.Spelling.{name-inj, apart}
use Rattle.ot_text.proofs.TypeLaw.{ty-inj}
use Rattle.ot_text.proofs.Forms.{tail}
use Rattle.ot_text.proofs.TermLaw.{tm_text-inj}
use Rattle.ot_text.proofs.SequentLaw.{sequent-front}
use Rattle.ot_print.specs.Laws.{HasTypedPremise, IsSequentOf, IsDefinitionOf}
use Rattle.ot_print.proofs.DefinitionParts.{pairs_onto, pairs-inj, names-inj, constant_onto, type_onto}
use Rattle.ot_print.proofs.DefinitionParts.{definition_onto, definition-onto}

constant-inj : (n m : Name) (t u : Tm Name) (r s : List ℕ) → IsWellTyped names t → IsWellTyped names u
    → constant_onto n t r ≡ constant_onto m u s → (n ≡ m) × (t ≡ u) × (r ≡ s)
constant-inj n m t u r s a b p =
    let e = name-inj n m _ _ p in
    let f = name-inj n m _ _ (append_cancel_left (codes " : |- (@") _ _ e.1) in
    let g = ty-inj (type_of names t) (type_of names u) _ _ (tail 58 f.1) in
    let h = tm_text-inj [] t u a.0 b.0 (41 ∷ r) (41 ∷ s) a.1 b.1 refl refl
    (append_cancel_left (codes " = ") (tm_text t ++ 41 ∷ r) (tm_text u ++ 41 ∷ s) g.1) in
    (e.0, h.0, tail 41 h.1)

-- the names of a type, and what stands behind `from`
type-inj : (n abs rep m a c : Name) (vs ws : List Name) (x y : List ℕ)
    → type_onto n abs rep vs x ≡ type_onto m a c ws y
    → (n ≡ m) × (abs ≡ a) × (rep ≡ c) × (vs ≡ ws) × (x ≡ y)
type-inj n abs rep m a c vs ws x y p =
    let e = name-inj n m _ _ p in
    let f = names-inj vs ws _ _ (append_cancel_left (codes " (") _ _ e.1) in
    let g = name-inj abs a _ _ (append_cancel_left (codes " abs ") _ _ f.1) in
    let h = name-inj rep c _ _ (append_cancel_left (codes " rep ") _ _ g.1) in
    (e.0, g.0, h.0, f.0, append_cancel_left (codes " from ") x y h.1)

premise-inj : (p q : Sequent Name) (r s : List ℕ) → IsSequent names p → IsSequent names q
    → sequent_text p ++ (codes " : " ++ r) ≡ sequent_text q ++ (codes " : " ++ s)
    → IsSequentOf p q × (p.concl ≡ q.concl) × (r ≡ s)
premise-inj p q r s a b h =
    let e = sequent-front p q (codes " : " ++ r) (codes " : " ++ s) a b refl refl h in
    ((same_sequent-is names tells_names p q).1 (e.0, e.1), e.1, append_cancel_left (codes " : ") r s e.2)

-- what stands behind one text
behind : (x y r s : List ℕ) → x ≡ y → x ++ r ≡ y ++ s → r ≡ s
behind x y r s p h = append_cancel_left y r s (ap (λ z. z ++ r) (sym p) ∙ h)

-- ---- from what was read the theorems follow: of the premise they show the conclusion alone
abbrev list_theorems_text : List (Name × Variable Name) → Tm Name → List ℕ
list_theorems_text ps c = theorems_text (sequent_of names (subst_tm names [] (constants_for names ps) c) ∷ [])

abbrev type_theorems_text : Name → Name → Name → List Name → Tm Name → List ℕ
type_theorems_text n abs rep vs c = theorems_text (theorems_at names n abs rep vs c)

list-inj : (ps qs : List (Name × Variable Name)) (p q : Sequent Name) (r s : List ℕ) → IsSequent names p
    → IsSequent names q
    → pairs_onto ps (codes " from " ++ (sequent_text p ++ (codes " : " ++ (list_theorems_text ps p.concl ++ r))))
    ≡ pairs_onto qs (codes " from " ++ (sequent_text q ++ (codes " : " ++ (list_theorems_text qs q.concl ++ s))))
    → ((ps ≡ qs) × IsSequentOf p q) × (r ≡ s)
list-inj ps qs p q r s a b h =
    let e = pairs-inj ps qs _ _ h in
    let f = premise-inj p q _ _ a b e.1 in
    let g = behind _ _ r s (λ i. list_theorems_text (e.0 i) (f.1 i)) f.2 in
    ((e.0, f.0), g)

whole-type-inj : (n abs rep m k c : Name) (vs ws : List Name) (p q : Sequent Name) (r s : List ℕ) → IsSequent names p
    → IsSequent names q
    → type_onto n abs rep vs (sequent_text p ++ (codes " : " ++ (type_theorems_text n abs rep vs p.concl ++ r)))
    ≡ type_onto m k c ws (sequent_text q ++ (codes " : " ++ (type_theorems_text m k c ws q.concl ++ s)))
    → ((n ≡ m) × (abs ≡ k) × (rep ≡ c) × (vs ≡ ws) × IsSequentOf p q) × (r ≡ s)
whole-type-inj n abs rep m k c vs ws p q r s a b h =
    let e = type-inj n abs rep m k c vs ws _ _ h in
    let f = premise-inj p q _ _ a b e.4 in
    let g = behind _ _ r s (λ i. type_theorems_text (e.0 i) (e.1 i) (e.2 i) (e.3 i) (f.1 i)) f.2 in
    ((e.0, e.1, e.2, e.3, f.0), g)

-- ---- the law
onto-inj : (d e : Definition Name) (r s : List ℕ) → HasTypedPremise d → HasTypedPremise e
    → definition_onto d r ≡ definition_onto e s → IsDefinitionOf d e × (r ≡ s)
onto-inj (ConDef n t) (ConDef m u) r s a b p =
    let e = constant-inj n m t u r s a b (append_cancel_left (codes "const ") _ _ p) in
    (λ i. ConDef (e.0 i) (e.1 i), e.2)
onto-inj (ConDef n t) (ListDef qs q) r s a b p =
    absurd (apart 32 115 _ _ refl (append_cancel_left (codes "const") _ _ p))
onto-inj (ConDef n t) (TyDef m k c ws q) r s a b p = absurd (apart 99 116 _ _ refl p)
onto-inj (ListDef ps q) (ConDef m u) r s a b p =
    absurd (apart 115 32 _ _ refl (append_cancel_left (codes "const") _ _ p))
onto-inj (ListDef ps p) (ListDef qs q) r s a b h =
    list-inj ps qs p q r s a b (append_cancel_left (codes "consts") _ _ h)
onto-inj (ListDef ps q) (TyDef m k c ws p) r s a b h = absurd (apart 99 116 _ _ refl h)
onto-inj (TyDef n abs rep vs q) (ConDef m u) r s a b p = absurd (apart 116 99 _ _ refl p)
onto-inj (TyDef n abs rep vs q) (ListDef ps p) r s a b h = absurd (apart 116 99 _ _ refl h)
onto-inj (TyDef n abs rep vs p) (TyDef m k c ws q) r s a b h =
    whole-type-inj n abs rep m k c vs ws p q r s a b (append_cancel_left (codes "type ") _ _ h)

pub definition-front : (d e : Definition Name) (r s : List ℕ) → HasTypedPremise d → HasTypedPremise e
    → definition_text d ++ r ≡ definition_text e ++ s → IsDefinitionOf d e × (r ≡ s)
definition-front d e r s a b p = onto-inj d e r s a b (sym (definition-onto d r) ∙ p ∙ definition-onto e s)

pub definition_text-inj : (d e : Definition Name) → HasTypedPremise d → HasTypedPremise e
    → definition_text d ≡ definition_text e → IsDefinitionOf d e
definition_text-inj d e a b p = (definition-front d e [] [] a b (ap (λ z. z ++ []) p)).0
