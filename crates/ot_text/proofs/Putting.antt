-- One text after another.
use Rattle.std.specs.Prelude.{◌≡◌, ℕ, suc, ◌+◌, ◌-◌, ◌<◌, ◌≤◌, true, false}
use Rattle.std.specs.Prelude.{nat_le, List, [], ◌∷◌, ◌++◌, length, Some, ◌⊎◌}
use Rattle.std.proofs.Common.{refl, sym, ◌∙◌, ap, subst, inl, inr, arith, append-nil, drop, drop-cons, get_or}
use Rattle.std.proofs.Math.ListN.{drop_of_length-le}
use Rattle.std.proofs.lemmas.Bool.{le-leb, lt-leb}
use Rattle.ot_logic.proofs.Putting.{put-twice}
use Rattle.ot_text.specs.declared.fault.PrintFault.{PrintFault}
use Rattle.ot_text.specs.declared.fault.PrintFault.TheVariants.{TooLarge, Memory}
use Rattle.ot_text.specs.Pages.{Printed, Bytes, Full, NoMemory, put, is_stopped, IsPut, HasRoom, stopped}

put-put : (x y : List ℕ) (s : Printed) → put y (put x s) ≡ put (x ++ y) s
put-put x y (Bytes bs room) = put-twice Bytes Full put (λ z. refl) (λ z cs n. refl) x y bs room
put-put x y Full = refl
put-put x y NoMemory = refl

pub then : {x y : List ℕ} {s t u : Printed} → IsPut x s t → IsPut y t u → IsPut (x ++ y) s u
then {x} {y} {s} {t} {u} p q = record { state = go p.state q.state } where
  go : (t ≡ NoMemory) ⊎ (t ≡ put x s) → (u ≡ NoMemory) ⊎ (u ≡ put y t) → (u ≡ NoMemory) ⊎ (u ≡ put (x ++ y) s)
  go a (inl e) = inl e
  go (inl d) (inr e) = inl (e ∙ ap (put y) d)
  go (inr d) (inr e) = inr (e ∙ ap (put y) d ∙ put-put x y s)

put-nil : (s : Printed) → s ≡ put [] s
put-nil (Bytes bs room) =
    let t : nat_le 0 room ≡ true = le-leb 0 room (omega arith) in
    let d : room - 0 ≡ room = omega arith in
    rw (t, append-nil, d) refl
put-nil Full = refl
put-nil NoMemory = refl

pub nothing : (s : Printed) → IsPut [] s s
nothing s = record { state = inr (put-nil s) }

-- a page that is stopped stays as it is
pub stays : {x : List ℕ} (s : Printed) → is_stopped s ≡ true → IsPut x s s
stays (Bytes bs room) h = cc
stays Full h = record { state = inr refl }
stays NoMemory h = record { state = inl refl }

-- a page that isn't stopped gives up where the text doesn't fit, or where memory runs out
pub gives-up : (x : List ℕ) (s t : Printed) (room : ℕ) (fault : PrintFault) → t ≡ stopped (Some fault) s
    → is_stopped s ≡ false → HasRoom s room → (fault ≡ TooLarge → room < length x) → IsPut x s t
gives-up x (Bytes bs r) t room TooLarge p e h g =
    let n = g refl in
    let f = lt-leb (length x) r (omega (arith, n, h)) in
    record { state = inr (p ∙ rw f refl) }
gives-up x (Bytes bs r) t room (Memory memory) p e h g = record { state = inl p }
gives-up x Full t room fault p e h g = cc
gives-up x NoMemory t room fault p e h g = cc

pub same-text : {x y : List ℕ} {s t : Printed} → x ≡ y → IsPut x s t → IsPut y s t
same-text {x} {y} {s} {t} p h = subst (λ z. IsPut z s t) p h

-- ---- a loop: what puts the rest x on the page s has put the whole y on the page s0
abbrev pub Leaves : List ℕ → List ℕ → Printed → Printed → Type 0
Leaves x y s0 s = (u : Printed) → IsPut x s u → IsPut y s0 u

pub leaves-more : {x y z r : List ℕ} {s0 s t : Printed} → Leaves x y s0 s → x ≡ z ++ r → IsPut z s t → Leaves r y s0 t
leaves-more p e q u h = p u (same-text (sym e) (then q h))

pub leaves-all : {x y r : List ℕ} {s0 s t : Printed} → Leaves x y s0 s → x ≡ r → IsPut r s t → IsPut y s0 t
leaves-all {t = t} p e q = p t (same-text (sym e) q)

-- ---- a loop over a list whose text F is: what puts the rest of the text on the page s has put the whole on the page s0
abbrev pub Puts : {X : Type 0} → (List X → List ℕ) → List X → ℕ → Printed → Printed → Type 0
Puts F xs i s0 s = Leaves (F (drop i xs)) (F xs) s0 s

pub puts-more : {X : Type 0} (F : List X → List ℕ) (g : X → List ℕ)
    → ((x : X) (xs : List X) → F (x ∷ xs) ≡ g x ++ F xs)
    → (xs : List X) (i : ℕ) (d : X) (s0 s t : Printed) → i < length xs → Puts F xs i s0 s
    → IsPut (g (get_or xs i d)) s t → Puts F xs (i + 1) s0 t
puts-more {X} F g e xs i d s0 s t h p q u r =
    let k : i + 1 ≡ suc i = omega arith in
    let w : F (drop i xs) ≡ g (get_or xs i d) ++ F (drop (i + 1) xs) = ap F (drop-cons xs i d h) ∙ e _ _
    ∙ ap (λ j. g (get_or xs i d) ++ F (drop j xs)) (sym k) in
    p u (same-text (sym w) (then q r))

pub puts-all : {X : Type 0} (F : List X → List ℕ) (xs : List X) (i : ℕ) (s0 s u : Printed) → length xs ≤ i
    → Puts F xs i s0 s → IsPut (F []) s u → IsPut (F xs) s0 u
puts-all F xs i s0 s u h p q = p u (same-text (ap F (sym (drop_of_length-le xs h))) q)
