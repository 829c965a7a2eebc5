-- The text of the matches, one source and one theorem after another.
use Rattle.std.proofs.Common.{◌≡◌, ℕ, ◌+◌, ◌-◌, ◌<◌, ◌≤◌, Bool, true, false, cond, nat_le, List, []}
use Rattle.std.proofs.Common.{◌∷◌, ◌++◌, map, length, take, get_or, Option, Some, None, refl, sym, ap}
use Rattle.std.proofs.Common.{◌∙◌, subst, append_assoc, append-nil, length-append, inl, inr, arith}
use Rattle.std.specs.Prelude.{◌⊎◌, Result, Ok, IfOk}
use Rattle.std.specs.Option.{option_map}
use Rattle.std.proofs.lemmas.Bool.Decides.{nat_tests}
use Rattle.std.proofs.lemmas.List.{take_more, map-append}
use Rattle.ot_logic.specs.Names.{Name}
use Rattle.ot_logic.specs.Naming.{names}
use Rattle.ot_logic.specs.Trees.{Tm, Sequent}
use Rattle.ot_text.specs.Pages.{Printed, Bytes, Full, NoMemory, put, is_stopped, IsPut, printed}
use Rattle.ot_text.proofs.Putting.{then, same-text, stays}
use Rattle.ot_kernel.specs.State.{State}
use Rattle.ot_match.specs.Matching.{matched}
use Rattle.ot_match.specs.Found.{types_of, terms_of, maps_of}
use Rattle.ot_match.specs.declared.find.Match.{Match}
use Rattle.ot_find.specs.Matches.{Found, found, matches_in}
use Rattle.ot_find.specs.Texts.{found_text, matches_text, HasFound}
use Rattle.ot_find.specs.declared.search.Search.{Search}

-- ---- lists of matches
pub matches-append : (fs gs : List Found) → matches_text (fs ++ gs) ≡ matches_text fs ++ matches_text gs
matches-append [] gs = refl
matches-append (f ∷ fs) gs =
    ap (λ x. found_text f ++ x) (matches-append fs gs)
    ∙ sym (append_assoc (found_text f) (matches_text fs) (matches_text gs))

-- each has a byte at least
matches-long : (fs : List Found) → length fs ≤ length (matches_text fs)
matches-long [] = omega arith
matches-long (f ∷ fs) =
    let more = matches-long fs in
    let one = some-bytes f in
    let n = length-append (found_text f) (matches_text fs) in
    omega arith
  where
    some-bytes : (f : Found) → 0 < length (found_text f)
    some-bytes f = omega arith

in-append : (p : Tm Name) (source : List ℕ) (qs rs : List (Sequent Name))
    → matches_in p source (qs ++ rs) ≡ matches_in p source qs ++ matches_in p source rs
in-append p source [] rs = refl
in-append p source (q ∷ qs) rs =
    ap (λ fs. found source q (matched names p q.concl) ++ fs) (in-append p source qs rs)
    ∙ sym (append_assoc (found source q (matched names p q.concl)) (matches_in p source qs) (matches_in p source rs))

-- one theorem more
pub in-more : {X : Type 0} (p : Tm Name) (source : List ℕ)
    (at : X → Sequent Name) (xs : List X) (i : ℕ) (x d : X) (fs : List Found)
    → i < length xs → x ≡ get_or xs i d
    → (fs ++ matches_in p source (map at (take i xs))) ++ found source (at x) (matched names p (at x).concl)
    ≡ fs ++ matches_in p source (map at (take (i + 1) xs))
in-more p source at xs i x d fs h is =
    append_assoc fs (matches_in p source (map at (take i xs))) (found source (at x) (matched names p (at x).concl))
    ∙ ap (λ gs. fs ++ gs)
    (ap (λ gs. matches_in p source (map at (take i xs)) ++ gs)
    (sym (append-nil (found source (at x) (matched names p (at x).concl))))
    ∙ sym (in-append p source (map at (take i xs)) (at x ∷ []))
    ∙ ap (matches_in p source) (sym (map-append at (take i xs) (x ∷ []))
    ∙ ap (map at) (ap (λ y. take i xs ++ y ∷ []) is ∙ sym (take_more xs i d h))))

-- ---- pages
-- a page that takes more isn't stopped
still-open : (x : List ℕ) (s t : Printed) → IsPut x s t → is_stopped t ≡ false → is_stopped s ≡ false
still-open x (Bytes bs room) t p h = refl
still-open x Full t p h = go p.state
  where
    go : (t ≡ NoMemory) ⊎ (t ≡ Full) → true ≡ false
    go (inl e) = sym (ap is_stopped e) ∙ h
    go (inr e) = sym (ap is_stopped e) ∙ h
still-open x NoMemory t p h = go p.state
  where
    go : (t ≡ NoMemory) ⊎ (t ≡ NoMemory) → true ≡ false
    go (inl e) = sym (ap is_stopped e) ∙ h
    go (inr e) = sym (ap is_stopped e) ∙ h

module _ (x : List ℕ) (max : ℕ) where
  le-true : nat_le (length x) max ≡ true → length x ≤ max
  le-true h = grind (arith, nat_tests)

  -- the text of a page that isn't stopped, and which the limit allows
  held : (bs : List ℕ) (room : ℕ) → IsPut x (Bytes [] max) (Bytes bs room) → (bs ≡ x) × (length x ≤ max)
  held bs room p = go p.state
    where
      fits : (b : Bool) → nat_le (length x) max ≡ b → Bytes bs room ≡ cond b (Bytes x (max - length x)) Full
          → (bs ≡ x) × (length x ≤ max)
      fits true h e = (cc, le-true h)
      fits false h e = cc

      go : (Bytes bs room ≡ NoMemory) ⊎ (Bytes bs room ≡ cond (nat_le (length x) max) (Bytes x (max - length x)) Full)
          → (bs ≡ x) × (length x ≤ max)
      go (inl e) = cc
      go (inr e) = fits (nat_le (length x) max) refl e

  pub held-within : (s : Printed) → IsPut x (Bytes [] max) s → is_stopped s ≡ false → length x ≤ max
  held-within (Bytes bs room) p h = (held bs room p).1
  held-within Full p h = cc
  held-within NoMemory p h = cc

-- ---- searches
-- further matches, whose text was put on the page and which were counted
pub found-more : (old new : Search) (fs gs : List Found) → new.max ≡ old.max
    → IsPut (matches_text gs) (printed old.page) (printed new.page)
    → (is_stopped (printed new.page) ≡ false → new.count ≡ old.count + length gs) → HasFound old fs
    → HasFound new (fs ++ gs)
found-more old new fs gs m p n h = record { text = text; count = count }
  where
    text : IsPut (matches_text (fs ++ gs)) (Bytes [] new.max) (printed new.page)
    text =
        same-text (sym (matches-append fs gs)) (subst
        (λ k. IsPut (matches_text fs ++ matches_text gs) (Bytes [] k) (printed new.page)) (sym m) (then h.text p))

    count : is_stopped (printed new.page) ≡ false → new.count ≡ length (fs ++ gs)
    count open_ =
        let a = n open_ in
        let b = h.count (still-open (matches_text gs) (printed old.page) (printed new.page) p open_) in
        let l = length-append fs gs in
        omega arith

-- so many matches are fewer than the bytes that the limit allows
pub found-few : (old : Search) (new : Printed) (fs gs : List Found) → HasFound old fs
    → IsPut (matches_text gs) (printed old.page) new → is_stopped new ≡ false → old.count + length gs ≤ old.max
found-few old new fs gs h p open_ =
    let b = h.count (still-open (matches_text gs) (printed old.page) new p open_) in
    let w = held-within (matches_text (fs ++ gs)) old.max new (same-text (sym (matches-append fs gs)) (then h.text p))
    open_ in
    let long = matches-long (fs ++ gs) in
    let l = length-append fs gs in
    omega arith

-- a search that is stopped stays as it is
pub stopped-step : (old : Search) (fs gs : List Found) → is_stopped (printed old.page) ≡ true → HasFound old fs
    → HasFound old (fs ++ gs)
stopped-step old fs gs st h =
    found-more old old fs gs refl (stays (printed old.page) st) (λ o. let no : true ≡ false = sym st ∙ o in cc) h

module _ (k : State) (p : Tm Name) (source : List ℕ) (q : Sequent Name) (t : Tm Name) {E : Type 0}
    (r : Result (Option Match) E)
    (is : IfOk r (λ o. option_map (maps_of k) o ≡ matched names p t))
    (at : t ≡ q.concl) (old : Search) (fs : List Found) (h : HasFound old fs) where
  -- the matcher's answer
  answer : (o : Option Match) → r ≡ Ok o → option_map (maps_of k) o ≡ matched names p q.concl
  answer o e = subst (λ x. IfOk x (λ a. option_map (maps_of k) a ≡ matched names p t)) e is ∙ ap (matched names p) at

  -- a theorem that the pattern doesn't match
  pub none-step : r ≡ Ok None → HasFound old (fs ++ found source q (matched names p q.concl))
  none-step e =
      let none : [] ≡ found source q (matched names p q.concl) = ap (found source q) (answer None e) in
      subst (HasFound old) (sym (append-nil fs) ∙ ap (λ gs. fs ++ gs) none) h

  -- a theorem that it matches
  module _ (m : Match) (e : r ≡ Ok (Some m)) (new : Search) where
    abbrev pub one : Found
    one = record { source = source; sequent = q; types = types_of k m.types.items; vars = terms_of k m.vars.items }

    pub some-step : new.max ≡ old.max → IsPut (found_text one) (printed old.page) (printed new.page)
        → (old.count < old.max → new.count ≡ old.count + 1)
        → HasFound new (fs ++ found source q (matched names p q.concl))
    some-step same put n =
        let some : one ∷ [] ≡ found source q (matched names p q.concl) = ap (found source q) (answer (Some m) e) in
        let text : IsPut (matches_text (one ∷ [])) (printed old.page) (printed new.page) =
        same-text (sym (append-nil (found_text one))) put in
        let count : is_stopped (printed new.page) ≡ false → new.count ≡ old.count + length (one ∷ []) =
        (λ o. let few : old.count + 1 ≤ old.max =
        found-few old (printed new.page) fs (one ∷ []) h text o in
        n (omega (arith, few)))
        in
        subst (λ gs. HasFound new (fs ++ gs)) some (found-more old new fs (one ∷ []) same text count h)
