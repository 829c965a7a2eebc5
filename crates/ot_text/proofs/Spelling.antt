-- Names: the text followed by further bytes gives back the name and these bytes.
use Rattle.std.specs.Prelude.{◌≡◌, ℕ, ◌==◌, Bool, true, false, cond, ◌||◌, if◌then◌else◌, List, [], ◌∷◌, ◌++◌, map}
use Rattle.std.specs.List.{flat_map}
use Rattle.std.proofs.Common.{refl, sym, ◌∙◌, ap, subst, append_assoc, eq-eqb}
use Rattle.ot_logic.specs.Names.{Name, Plain, Escaped, item_of, item_text, further_text}
use Rattle.ot_logic.proofs.Spelling.{joined-further}
use Rattle.ot_text.specs.Texts.{name_text}

-- a quote, a backslash and a dot have a backslash before them
abbrev is_special : ℕ → Bool
is_special b = (b == 34) || ((b == 92) || (b == 46))

abbrev component_onto : List ℕ → List ℕ → List ℕ
component_onto [] r = r
component_onto (b ∷ bs) r = cond (is_special b) (92 ∷ b ∷ component_onto bs r) (b ∷ component_onto bs r)

abbrev further_onto : List (List ℕ) → List ℕ → List ℕ
further_onto [] r = 34 ∷ r
further_onto (c ∷ cs) r = 46 ∷ component_onto c (further_onto cs r)

-- the text of a name, followed by r
abbrev pub name_onto : Name → List ℕ → List ℕ
name_onto [] r = 33 ∷ r
name_onto (c ∷ cs) r = 34 ∷ component_onto c (further_onto cs r)

-- two different first bytes
pub apart : (x y : ℕ) (xs ys : List ℕ) → (x == y) ≡ false → x ∷ xs ≡ y ∷ ys → ⊥
apart x y xs ys d p = let q : x ≡ y = cc in let t = eq-eqb x y q in cc

-- ---- the texts, followed by r

abbrev component_bytes : List ℕ → List ℕ
component_bytes c = flat_map item_text (map item_of c)

item-onto : (b : ℕ) (r : List ℕ) → item_text (item_of b) ++ r ≡ cond (is_special b) (92 ∷ b ∷ r) (b ∷ r)
item-onto b r = go (is_special b)
  where
    go : (e : Bool) → item_text (if e then Escaped b else Plain b) ++ r ≡ cond e (92 ∷ b ∷ r) (b ∷ r)
    go true = refl
    go false = refl

component-onto : (c r : List ℕ) → component_bytes c ++ r ≡ component_onto c r
component-onto [] r = refl
component-onto (b ∷ bs) r =
    append_assoc (item_text (item_of b)) (component_bytes bs) r
    ∙ item-onto b (component_bytes bs ++ r)
    ∙ ap (λ z. cond (is_special b) (92 ∷ b ∷ z) (b ∷ z)) (component-onto bs r)

further-onto : (cs : List (List ℕ)) (r : List ℕ) → flat_map further_text cs ++ 34 ∷ r ≡ further_onto cs r
further-onto [] r = refl
further-onto (c ∷ cs) r =
    ap (λ z. 46 ∷ z) (append_assoc (component_bytes c) (flat_map further_text cs) (34 ∷ r)
    ∙ component-onto c (flat_map further_text cs ++ 34 ∷ r) ∙ ap (component_onto c) (further-onto cs r))

pub name-onto : (n : Name) (r : List ℕ) → name_text n ++ r ≡ name_onto n r
name-onto [] r = refl
name-onto (c ∷ cs) r =
    ap (λ z. 34 ∷ (z ++ 34 ∷ []) ++ r) (joined-further c cs)
    ∙ ap (λ z. 34 ∷ z) (
    append_assoc (component_bytes c ++ flat_map further_text cs) (34 ∷ []) r
    ∙ append_assoc (component_bytes c) (flat_map further_text cs) (34 ∷ r)
    ∙ component-onto c (flat_map further_text cs ++ 34 ∷ r)
    ∙ ap (component_onto c) (further-onto cs r)
    )

-- ---- back
escape-inj : (b d : ℕ) (x y : List ℕ) → cond (is_special b) (92 ∷ b ∷ x) (b ∷ x) ≡ cond (is_special d) (92 ∷ d ∷ y)
    (d ∷ y) → (b ≡ d) × (x ≡ y)
escape-inj b d x y = go (is_special b) (is_special d) refl refl where
  go : (e f : Bool) → is_special b ≡ e → is_special d ≡ f → cond e (92 ∷ b ∷ x) (b ∷ x) ≡ cond f (92 ∷ d ∷ y) (d ∷ y)
      → (b ≡ d) × (x ≡ y)
  go true true k l p = (cc, cc)
  go true false k l p = let q : 92 ≡ d = cc in
      let w : is_special 92 ≡ false = subst (λ z. is_special z ≡ false) (sym q) l in cc
  go false true k l p = let q : 92 ≡ b = cc in
      let w : is_special 92 ≡ false = subst (λ z. is_special z ≡ false) (sym q) k in cc
  go false false k l p = (cc, cc)

-- a quote or a dot comes first
abbrev pub stops : List ℕ → Bool
stops [] = false
stops (b ∷ bs) = (b == 34) || (b == 46)

stop-special : (b : ℕ) → ((b == 34) || (b == 46)) ≡ true → is_special b ≡ true
stop-special b = go (b == 34) (b == 92) (b == 46) where
  go : (e f g : Bool) → (e || g) ≡ true → (e || (f || g)) ≡ true
  go true true g p = p
  go true false g p = p
  go false true g p = refl
  go false false g p = p

stop-escape : (b : ℕ) (x r : List ℕ) → stops r ≡ true → r ≡ cond (is_special b) (92 ∷ b ∷ x) (b ∷ x) → ⊥
stop-escape b x r h p = go (is_special b) refl p where
  go : (e : Bool) → is_special b ≡ e → r ≡ cond e (92 ∷ b ∷ x) (b ∷ x) → ⊥
  go true k p = let w : stops (92 ∷ b ∷ x) ≡ true = subst (λ z. stops z ≡ true) p h in cc
  go false k p = let w = stop-special b (subst (λ z. stops z ≡ true) p h) in cc

component-inj : (c d r s : List ℕ) → stops r ≡ true → stops s ≡ true → component_onto c r ≡ component_onto d s
    → (c ≡ d) × (r ≡ s)
component-inj [] [] r s h k p = (refl, p)
component-inj [] (d ∷ ds) r s h k p = absurd (stop-escape d (component_onto ds s) r h p)
component-inj (b ∷ bs) [] r s h k p = absurd (stop-escape b (component_onto bs r) s k (sym p))
component-inj (b ∷ bs) (d ∷ ds) r s h k p =
    let e = escape-inj b d (component_onto bs r) (component_onto ds s) p in
    let w = component-inj bs ds r s h k e.1 in
    (cc, w.1)

stops-further : (cs : List (List ℕ)) (r : List ℕ) → stops (further_onto cs r) ≡ true
stops-further [] r = refl
stops-further (c ∷ cs) r = refl

pub tail-same : {X : Type 0} (x y : X) (xs ys : List X) → x ∷ xs ≡ y ∷ ys → xs ≡ ys
tail-same x y xs ys p = cc

pub cons-same : {X Y : Type 0} (x y : X) (xs ys : List X) (r s : Y) → x ≡ y → (xs ≡ ys) × (r ≡ s)
    → (x ∷ xs ≡ y ∷ ys) × (r ≡ s)
cons-same x y xs ys r s p q = let e = q.0 in (cc, q.1)

further-inj : (cs ds : List (List ℕ)) (r s : List ℕ) → further_onto cs r ≡ further_onto ds s → (cs ≡ ds) × (r ≡ s)
further-inj [] [] r s p = (refl, tail-same 34 34 r s p)
further-inj [] (d ∷ ds) r s p = absurd (apart 34 46 _ _ refl p)
further-inj (c ∷ cs) [] r s p = absurd (apart 46 34 _ _ refl p)
further-inj (c ∷ cs) (d ∷ ds) r s p =
    let e = component-inj c d (further_onto cs r) (further_onto ds s) (stops-further cs r) (stops-further ds s)
    (tail-same 46 46 _ _ p) in
    cons-same c d cs ds r s e.0 (further-inj cs ds r s e.1)

pub name-inj : (m n : Name) (r s : List ℕ) → name_onto m r ≡ name_onto n s → (m ≡ n) × (r ≡ s)
name-inj [] [] r s p = (refl, tail-same 33 33 r s p)
name-inj [] (d ∷ ds) r s p = absurd (apart 33 34 _ _ refl p)
name-inj (c ∷ cs) [] r s p = absurd (apart 34 33 _ _ refl p)
name-inj (c ∷ cs) (d ∷ ds) r s p =
    let e = component-inj c d (further_onto cs r) (further_onto ds s) (stops-further cs r) (stops-further ds s)
    (tail-same 34 34 _ _ p) in
    cons-same c d cs ds r s e.0 (further-inj cs ds r s e.1)
