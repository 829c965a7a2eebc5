-- The text of a definition followed by further bytes, part by part; pairs and names are read back.
use Rattle.std.specs.Prelude.{◌≡◌, ℕ, true, false, cond, Bool, List, [], ◌∷◌, ◌++◌, codes, is_some}
use Rattle.std.proofs.Common.{refl, sym, ◌∙◌, ap, subst, append_assoc}
use Rattle.std.proofs.lemmas.List.{append_cancel_left}
use Rattle.ot_logic.specs.Names.{Name}
use Rattle.ot_logic.specs.Naming.{names}
use Rattle.ot_logic.specs.Trees.{Ty, TyOp, NoTys, Variable, Tm, Free, Con, Definition, ConDef, ListDef, TyDef}
use Rattle.ot_logic.specs.Hol.{type_of, equation, theorems}
use Rattle.ot_laws.proofs.Tests.{tells_names}
use Rattle.ot_laws.proofs.Equations.{as_equation-equation}
use Rattle.ot_text.specs.Texts.{name_text, is_equation, tm_text, sequent_text}
use Rattle.ot_text.specs.Sections.{theorems_text, pair_text, further_pairs, pairs_text, further_names, names_text}
use Rattle.ot_text.specs.Sections.{definition_text}
use Rattle.ot_text.proofs.Spelling.{name_onto, name-onto, name-inj, apart}
use Rattle.ot_text.proofs.TypeLaw.{ty_onto, ty-inj, starts_type, starts-ty}
use Rattle.ot_text.proofs.Forms.{tm-onto, tail}

-- ---- pieces of a text from the left
four-pieces : (a b c d r : List ℕ) → a ++ b ++ c ++ d ++ r ≡ a ++ (b ++ (c ++ (d ++ r)))
four-pieces a b c d r = simp append_assoc

five-pieces : (a b c d e r : List ℕ) → a ++ b ++ c ++ d ++ e ++ r ≡ a ++ (b ++ (c ++ (d ++ (e ++ r))))
five-pieces a b c d e r = simp append_assoc

-- ---- pairs, followed by r
abbrev pair_onto : Name × Variable Name → List ℕ → List ℕ
pair_onto p r = codes " " ++ name_onto p.0 (codes " for " ++ name_onto p.1.name (codes ":" ++ ty_onto p.1.ty r))

abbrev further_pairs_onto : List (Name × Variable Name) → List ℕ → List ℕ
further_pairs_onto [] r = r
further_pairs_onto (p ∷ ps) r = codes "," ++ pair_onto p (further_pairs_onto ps r)

abbrev pub pairs_onto : List (Name × Variable Name) → List ℕ → List ℕ
pairs_onto [] r = r
pairs_onto (p ∷ ps) r = pair_onto p (further_pairs_onto ps r)

pair-onto : (p : Name × Variable Name) (r : List ℕ) → pair_text p ++ r ≡ pair_onto p r
pair-onto p r =
    four-pieces (codes " ") (name_text p.0) (codes " for ") (tm_text (Free p.1)) r
    ∙ ap (λ z. codes " " ++ (name_text p.0 ++ (codes " for " ++ z))) (tm-onto (Free p.1) r)
    ∙ ap (λ z. codes " " ++ z) (name-onto p.0 _)

further_pairs-onto : (ps : List (Name × Variable Name)) (r : List ℕ)
    → further_pairs ps ++ r ≡ further_pairs_onto ps r
further_pairs-onto [] r = refl
further_pairs-onto (p ∷ ps) r =
    ap (λ z. codes "," ++ z) (append_assoc (pair_text p) (further_pairs ps) r ∙ pair-onto p (further_pairs ps ++ r)
    ∙ ap (pair_onto p) (further_pairs-onto ps r))

pairs-onto : (ps : List (Name × Variable Name)) (r : List ℕ) → pairs_text ps ++ r ≡ pairs_onto ps r
pairs-onto [] r = refl
pairs-onto (p ∷ ps) r =
    append_assoc (pair_text p) (further_pairs ps) r ∙ pair-onto p (further_pairs ps ++ r)
    ∙ ap (pair_onto p) (further_pairs-onto ps r)

-- ---- names, followed by r
abbrev further_names_onto : List Name → List ℕ → List ℕ
further_names_onto [] r = r
further_names_onto (n ∷ ns) r = codes " " ++ name_onto n (further_names_onto ns r)

abbrev names_onto : List Name → List ℕ → List ℕ
names_onto [] r = r
names_onto (n ∷ ns) r = name_onto n (further_names_onto ns r)

further_names-onto : (ns : List Name) (r : List ℕ) → further_names ns ++ r ≡ further_names_onto ns r
further_names-onto [] r = refl
further_names-onto (n ∷ ns) r =
    ap (λ z. codes " " ++ z) (append_assoc (name_text n) (further_names ns) r ∙ name-onto n (further_names ns ++ r)
    ∙ ap (name_onto n) (further_names-onto ns r))

names-onto : (ns : List Name) (r : List ℕ) → names_text ns ++ r ≡ names_onto ns r
names-onto [] r = refl
names-onto (n ∷ ns) r =
    append_assoc (name_text n) (further_names ns) r ∙ name-onto n (further_names ns ++ r)
    ∙ ap (name_onto n) (further_names-onto ns r)

-- ---- back
-- a name's text begins with none of the other bytes
no-name : (n : Name) (r : List ℕ) (c : ℕ) (x : List ℕ) → starts_type (c ∷ x) ≡ false → name_onto n r ≡ c ∷ x → ⊥
no-name n r c x h p =
    let w : starts_type (c ∷ x) ≡ true = subst (λ z. starts_type z ≡ true) p (starts-ty (TyOp n NoTys) r) in
    cc

pair-inj : (p q : Name × Variable Name) (r s : List ℕ) → pair_onto p r ≡ pair_onto q s → (p ≡ q) × (r ≡ s)
pair-inj p q r s h =
    let n = name-inj p.0 q.0 _ _ (tail 32 h) in
    let v = name-inj p.1.name q.1.name _ _ (append_cancel_left (codes " for ") _ _ n.1) in
    let t = ty-inj p.1.ty q.1.ty r s (tail 58 v.1) in
    (λ i. (n.0 i, record { name = v.0 i; ty = t.0 i }), t.1)

cons-both : {X : Type 0} {x y : X} {xs ys : List X} {r s : List ℕ} → x ≡ y → (xs ≡ ys) × (r ≡ s)
    → (x ∷ xs ≡ y ∷ ys) × (r ≡ s)
cons-both p q = (λ i. p i ∷ q.0 i, q.1)

-- behind the pairs stands a space, and no comma
further_pairs-inj : (ps qs : List (Name × Variable Name)) (r s : List ℕ)
    → further_pairs_onto ps (32 ∷ r) ≡ further_pairs_onto qs (32 ∷ s) → (ps ≡ qs) × (r ≡ s)
further_pairs-inj [] [] r s h = (refl, tail 32 h)
further_pairs-inj [] (q ∷ qs) r s h = absurd (apart 32 44 _ _ refl h)
further_pairs-inj (p ∷ ps) [] r s h = absurd (apart 44 32 _ _ refl h)
further_pairs-inj (p ∷ ps) (q ∷ qs) r s h =
    let e = pair-inj p q _ _ (tail 44 h) in
    cons-both e.0 (further_pairs-inj ps qs r s e.1)

pub pairs-inj : (ps qs : List (Name × Variable Name)) (r s : List ℕ)
    → pairs_onto ps (codes " from " ++ r) ≡ pairs_onto qs (codes " from " ++ s) → (ps ≡ qs) × (r ≡ s)
pairs-inj [] [] r s h = (refl, append_cancel_left (codes " from ") r s h)
pairs-inj [] (q ∷ qs) r s h = absurd (no-name q.0 _ 102 _ refl (sym (tail 32 h)))
pairs-inj (p ∷ ps) [] r s h = absurd (no-name p.0 _ 102 _ refl (tail 32 h))
pairs-inj (p ∷ ps) (q ∷ qs) r s h =
    let e = pair-inj p q _ _ h in
    let f = further_pairs-inj ps qs (codes "from " ++ r) (codes "from " ++ s) e.1 in
    cons-both e.0 (f.0, append_cancel_left (codes "from ") r s f.1)

-- behind the names stands a parenthesis
further_names-inj : (ns ms : List Name) (r s : List ℕ)
    → further_names_onto ns (41 ∷ r) ≡ further_names_onto ms (41 ∷ s) → (ns ≡ ms) × (r ≡ s)
further_names-inj [] [] r s h = (refl, tail 41 h)
further_names-inj [] (m ∷ ms) r s h = absurd (apart 41 32 _ _ refl h)
further_names-inj (n ∷ ns) [] r s h = absurd (apart 32 41 _ _ refl h)
further_names-inj (n ∷ ns) (m ∷ ms) r s h =
    let e = name-inj n m _ _ (tail 32 h) in
    cons-both e.0 (further_names-inj ns ms r s e.1)

pub names-inj : (ns ms : List Name) (r s : List ℕ) → names_onto ns (41 ∷ r) ≡ names_onto ms (41 ∷ s)
    → (ns ≡ ms) × (r ≡ s)
names-inj [] [] r s h = (refl, tail 41 h)
names-inj [] (m ∷ ms) r s h = absurd (no-name m _ 41 _ refl (sym h))
names-inj (n ∷ ns) [] r s h = absurd (no-name n _ 41 _ refl h)
names-inj (n ∷ ns) (m ∷ ms) r s h =
    let e = name-inj n m _ _ h in
    cons-both e.0 (further_names-inj ns ms r s e.1)

-- ---- definitions, followed by r
-- of a constant: its name and its equation
abbrev pub constant_onto : Name → Tm Name → List ℕ → List ℕ
constant_onto n t r = name_onto n (codes " : |- (@" ++ name_onto n (codes ":"
    ++ ty_onto (type_of names t) (codes " = " ++ (tm_text t ++ 41 ∷ r))))

-- of a type: its names, with x behind `from`
abbrev pub type_onto : Name → Name → Name → List Name → List ℕ → List ℕ
type_onto n abs rep vs x = name_onto n (codes " (" ++ names_onto vs (codes ") abs " ++ name_onto abs (codes " rep "
    ++ name_onto rep (codes " from " ++ x))))

-- behind the premise: the theorems of d, followed by r
abbrev theorems_onto : Definition Name → List ℕ → List ℕ
theorems_onto d r = codes " : " ++ (theorems_text (theorems names d) ++ r)

abbrev pub definition_onto : Definition Name → List ℕ → List ℕ
definition_onto (ConDef n t) r = codes "const " ++ constant_onto n t r
definition_onto (ListDef ps q) r = codes "consts"
    ++ pairs_onto ps (codes " from " ++ (sequent_text q ++ theorems_onto (ListDef ps q) r))
definition_onto (TyDef n abs rep vs q) r = codes "type "
    ++ type_onto n abs rep vs (sequent_text q ++ theorems_onto (TyDef n abs rep vs q) r)

by-true : (e : Bool) (x y : List ℕ) → e ≡ true → cond e x y ≡ x
by-true true x y p = refl
by-true false x y p = cc

equation-text : (ty : Ty Name) (a b : Tm Name)
    → tm_text (equation names ty a b) ≡ codes "(" ++ tm_text a ++ codes " = " ++ tm_text b ++ codes ")"
equation-text ty a b =
    by-true (is_equation names (equation names ty a b)) _ _
    (ap is_some (as_equation-equation names tells_names ty a b))

-- the constant's equation, followed by r
equation-onto : (n : Name) (ty : Ty Name) (t : Tm Name) (r : List ℕ) → tm_text (equation names ty (Con n ty) t) ++ r
    ≡ codes "(@" ++ name_onto n (codes ":" ++ ty_onto ty (codes " = " ++ (tm_text t ++ 41 ∷ r)))
equation-onto n ty t r =
    ap (λ z. z ++ r) (equation-text ty (Con n ty) t)
    ∙ five-pieces (codes "(") (tm_text (Con n ty)) (codes " = ") (tm_text t) (codes ")") r
    ∙ ap (λ z. codes "(" ++ z) (tm-onto (Con n ty) _)

constant-pieces : (n : Name) (x r : List ℕ)
    → codes "const " ++ name_text n ++ codes " : " ++ (codes "|- " ++ x ++ []) ++ r
    ≡ codes "const " ++ name_onto n (codes " : |- " ++ (x ++ r))
constant-pieces n x r =
    four-pieces (codes "const ") (name_text n) (codes " : ") (codes "|- " ++ x ++ []) r
    ∙ ap (λ z. codes "const " ++ (name_text n ++ (codes " : |- " ++ z))) (append_assoc x [] r)
    ∙ ap (λ z. codes "const " ++ z) (name-onto n _)

list-pieces : (ps : List (Name × Variable Name)) (x y r : List ℕ)
    → codes "consts" ++ pairs_text ps ++ codes " from " ++ x ++ codes " : " ++ y ++ r
    ≡ codes "consts" ++ pairs_onto ps (codes " from " ++ (x ++ (codes " : " ++ (y ++ r))))
list-pieces ps x y r = simp append_assoc (simp pairs-onto)

type-pieces : (n abs rep : Name) (vs : List Name) (x y r : List ℕ)
    → codes "type " ++ name_text n ++ codes " (" ++ names_text vs ++ codes ") abs " ++ name_text abs ++ codes " rep "
    ++ name_text rep ++ codes " from " ++ x ++ codes " : " ++ y ++ r
    ≡ codes "type " ++ type_onto n abs rep vs (x ++ (codes " : " ++ (y ++ r)))
type-pieces n abs rep vs x y r = simp append_assoc (simp (name-onto, names-onto))

pub definition-onto : (d : Definition Name) (r : List ℕ) → definition_text d ++ r ≡ definition_onto d r
definition-onto (ConDef n t) r =
    constant-pieces n (tm_text (equation names (type_of names t) (Con n (type_of names t)) t)) r
    ∙ ap (λ z. codes "const " ++ name_onto n (codes " : |- " ++ z)) (equation-onto n (type_of names t) t r)
definition-onto (ListDef ps q) r =
    list-pieces ps (sequent_text q) (theorems_text (theorems names (ListDef ps q))) r
definition-onto (TyDef n abs rep vs q) r =
    type-pieces n abs rep vs (sequent_text q) (theorems_text (theorems names (TyDef n abs rep vs q))) r
