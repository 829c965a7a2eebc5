-- The roots of exports, and the definitions that are taken.
use Rattle.std.proofs.Common.{◌≡◌, ℕ, ◌+◌, ◌<◌, inl, inr, Bool, true, false, cond, List, [], ◌∷◌}
use Rattle.std.proofs.Common.{◌++◌, set, take, length, refl, sym, ap, ◌∙◌, append_assoc, get_or}
use Rattle.std.specs.List.{AllByRecursion, flat_map}
use Rattle.std.proofs.lemmas.List.{take_more}
use Rattle.std.proofs.lemmas.Grind.{flat_map-append}
use Rattle.ot_logic.specs.Lists.{IsMember, IsPart}
use Rattle.ot_write.specs.declared.roots.Roots as code
use Rattle.ot_write.specs.Emitting.{is_marked, root_steps, marked_of}

pub steps-more : (es : List code.Roots) (i : ℕ) (x : code.Roots) (a b c e : List ℕ) → x ≡ get_or es i x
    → i < length es → a ≡ flat_map root_steps (take i es) → b ≡ a ++ x.theorem ∷ [] → c ≡ b ++ x.list ∷ []
    → e ≡ c ++ x.term ∷ [] → e ≡ flat_map root_steps (take (i + 1) es)
steps-more es i x a b c e here lt p q r s =
    s ∙ ap (λ z. z ++ x.term ∷ []) (r ∙ ap (λ z. z ++ x.list ∷ []) (q ∙ ap (λ z. z ++ x.theorem ∷ []) p))
    ∙ ap (λ z. z ++ x.term ∷ []) (append_assoc (flat_map root_steps (take i es)) (x.theorem ∷ []) (x.list ∷ []))
    ∙ append_assoc (flat_map root_steps (take i es)) (x.theorem ∷ x.list ∷ []) (x.term ∷ [])
    ∙ sym (flat_map-append root_steps (take i es) (x ∷ [])) ∙ ap (λ z. flat_map root_steps (take i es ++ z ∷ [])) here
    ∙ ap (flat_map root_steps) (sym (take_more es i x lt))

pub taken-in : (n : ℕ) (marks : List Bool) (is : List ℕ) → ((i : ℕ) → IsMember i is → i < n)
    → AllByRecursion (λ i. i < n) (marked_of marks is)
taken-in n marks [] h = tt
taken-in n marks (x ∷ is) h =
    go (is_marked marks x) (h x (inl refl), taken-in n (set marks x false) is (λ i m. h i (inr m)))
    (taken-in n marks is (λ i m. h i (inr m)))
  where
    go : (b : Bool) → (x < n) × AllByRecursion (λ i. i < n) (marked_of (set marks x false) is)
        → AllByRecursion (λ i. i < n) (marked_of marks is)
        → AllByRecursion (λ i. i < n) (cond b (x ∷ marked_of (set marks x false) is) (marked_of marks is))
    go true a c = a
    go false a c = c

-- what is taken is of the list
pub taken-part : (marks : List Bool) (is : List ℕ) → IsPart (marked_of marks is) is
taken-part marks [] i m = m
taken-part marks (x ∷ is) i m = go (is_marked marks x) (taken-part (set marks x false) is i) (taken-part marks is i) m
  where
    go : (b : Bool) → (IsMember i (marked_of (set marks x false) is) → IsMember i is)
        → (IsMember i (marked_of marks is) → IsMember i is)
        → IsMember i (cond b (x ∷ marked_of (set marks x false) is) (marked_of marks is)) → IsMember i (x ∷ is)
    go true f g (inl e) = inl e
    go true f g (inr m) = inr (f m)
    go false f g m = inr (g m)
