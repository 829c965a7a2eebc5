-- Laws of reading a name: it gives what the relation says.
use Rattle.std.proofs.Common.{◌≡◌, ◌≢◌, ◌<◌, ◌⊎◌, inl, inr, ℕ, List, [], ◌∷◌, ◌++◌, length, take}
use Rattle.std.proofs.Common.{drop, map, append_assoc, append-nil, sym, ap, subst, ◌∙◌, refl, arith}
use Rattle.std.proofs.lemmas.List.{map-append, take_at, take-append-drop, take_rest}
use Rattle.std.proofs.lemmas.List.{take_all, length-append, length-drop, length-map}
use Rattle.std.specs.Prelude.{is_some, Some, None, Result, Ok, Err, IfOk, IfErr, IsErrOf, slice_index, ◌-◌}
use Rattle.std.specs.List.{flat_map, AllByRecursion}
use Rattle.ot_logic.specs.declared.name.NameFault.{NameFault}
use Rattle.ot_logic.specs.declared.name.NameFault.TheVariants as faults
use Rattle.std.proofs.lemmas.Bool.Decides.{eqb_tells, nat_tests}
use Rattle.ot_logic.specs.Names.{Item, Plain, Escaped, item_text, item_byte, IsItem, joined}
use Rattle.ot_logic.specs.Names.{IsName, Spells, HasShorter, HasNone, AreExclusive, HasAnswer}
use Rattle.ot_logic.specs.Reading.{Reading, Done, Unended, Trails, push, dot}
use Rattle.ot_logic.specs.Reading.{behind, read_from, Gives, done_name, name_read}
use Rattle.ot_logic.specs.RanOut.{ran_out}

pub behind-push : (done : List (List ℕ)) (now : List ℕ) (b : ℕ) (r : Reading) → behind done now (push b r)
    ≡ behind done (now ++ b ∷ []) r
behind-push done now b (Done []) = refl
behind-push done now b (Done (x ∷ xs)) = ap (λ z. Done (done ++ z ∷ xs)) (sym (append_assoc now (b ∷ []) x))
behind-push done now b Unended = refl
behind-push done now b Trails = refl

pub behind-dot : (done : List (List ℕ)) (now : List ℕ) (r : Reading) → behind done now (dot r)
    ≡ behind (done ++ now ∷ []) [] r
behind-dot done now (Done []) = refl
behind-dot done now (Done (x ∷ xs)) = ap (λ z. Done (done ++ z ∷ x ∷ xs)) (append-nil now)
    ∙ ap Done (sym (append_assoc done (now ∷ []) (x ∷ xs)))
behind-dot done now Unended = refl
behind-dot done now Trails = refl

pub behind-start : (r : Reading) → behind [] [] r ≡ r
behind-start (Done []) = refl
behind-start (Done (x ∷ xs)) = refl
behind-start Unended = refl
behind-start Trails = refl

-- the loop's steps
pub at_end : {X : Type 0} (f : X → List ℕ) (xs ys : List X) (x : X) (r all : Reading) → behind (map f xs) (f x) r
    ≡ all → r ≡ Done ([] ∷ []) → ys ≡ xs ++ x ∷ [] → all ≡ Done (map f ys)
at_end f xs ys x r all inv e g = sym inv ∙ ap (behind (map f xs) (f x)) e ∙ ap (λ z. Done (map f xs ++ z ∷ []))
    (append-nil (f x)) ∙ ap Done (sym (map-append f xs (x ∷ []))) ∙ ap (λ z. Done (map f z)) (sym g)

pub at_byte : (done : List (List ℕ)) (now more : List ℕ) (b : ℕ) (r s all : Reading) → behind done now r ≡ all
    → r ≡ push b s → more ≡ now ++ b ∷ [] → behind done more s ≡ all
at_byte done now more b r s all inv e g = ap (λ z. behind done z s) g ∙ sym (behind-push done now b s)
    ∙ sym (ap (behind done now) e) ∙ inv

pub at_dot : {X : Type 0} (f : X → List ℕ) (xs ys : List X) (x : X) (new : List ℕ) (r s all : Reading)
    → behind (map f xs) (f x) r ≡ all → r ≡ dot s → ys ≡ xs ++ x ∷ [] → new ≡ [] → behind (map f ys) new s ≡ all
at_dot f xs ys x new r s all inv e g h =
    rw (g, h, map-append) (sym (behind-dot (map f xs) (f x) s) ∙ sym (ap (behind (map f xs) (f x)) e) ∙ inv)

-- a dot and a plain byte, whatever follows
read-dot : (xs : List ℕ) → read_from (46 ∷ xs) ≡ dot (read_from xs)
read-dot [] = refl
read-dot (x ∷ xs) = refl

read-plain : (b : ℕ) (xs : List ℕ) → IsItem (Plain b) → read_from (b ∷ xs) ≡ push b (read_from xs)
read-plain b [] h = let q = h.0 in grind (arith, nat_tests)
read-plain b (x ∷ xs) h = let q = h.0 in let r = h.1 in let s = h.2 in grind (arith, nat_tests)

push_all : List ℕ → Reading → Reading
push_all [] r = r
push_all (b ∷ bs) r = push b (push_all bs r)

-- what a text is read as whose closing quote has rest after it
abbrev closed : List ℕ → List (List ℕ) → Reading
closed [] name = Done name
closed (x ∷ xs) name = Trails

read-items : (is : List Item) → AllByRecursion IsItem is → (xs : List ℕ) → read_from (flat_map item_text is ++ xs)
    ≡ push_all (map item_byte is) (read_from xs)
unfolding push_all
read-items [] h xs = refl
read-items (Plain b ∷ is) h xs = read-plain b _ h.0 ∙ ap (push b) (read-items is h.1 xs)
read-items (Escaped b ∷ is) h xs = ap (push b) (read-items is h.1 xs)

push_all-closed : (bs : List ℕ) (rest x : List ℕ) (xs : List (List ℕ)) → push_all bs (closed rest (x ∷ xs))
    ≡ closed rest ((bs ++ x) ∷ xs)
unfolding push_all
push_all-closed [] rest x xs = refl
push_all-closed (b ∷ bs) [] x xs = ap (push b) (push_all-closed bs [] x xs)
push_all-closed (b ∷ bs) (r ∷ rs) x xs = ap (push b) (push_all-closed bs (r ∷ rs) x xs)

dot-closed : (rest x : List ℕ) (xs : List (List ℕ)) → dot (closed rest (x ∷ xs)) ≡ closed rest ([] ∷ x ∷ xs)
dot-closed [] x xs = refl
dot-closed (r ∷ rs) x xs = refl

read-quote : (rest : List ℕ) → read_from (34 ∷ rest) ≡ closed rest ([] ∷ [])
read-quote [] = refl
read-quote (r ∷ rs) = refl

-- a spelled text, and whatever follows it
pub read-joined : (cs : List (List Item)) → 0 < length cs → AllByRecursion (AllByRecursion IsItem) cs
    → (rest : List ℕ) → read_from (joined cs ++ 34 ∷ rest) ≡ closed rest (map (map item_byte) cs)
read-joined [] some h rest = absurd (omega arith)
read-joined (c ∷ []) some h rest =
    read-items c h.0 (34 ∷ rest) ∙ ap (push_all (map item_byte c)) (read-quote rest)
    ∙ push_all-closed (map item_byte c) rest [] [] ∙ ap (λ z. closed rest (z ∷ [])) (append-nil (map item_byte c))
read-joined (c ∷ d ∷ ds) some h rest =
    ap read_from (append_assoc (flat_map item_text c) (46 ∷ joined (d ∷ ds)) (34 ∷ rest))
    ∙ read-items c h.0 (46 ∷ joined (d ∷ ds) ++ 34 ∷ rest)
    ∙ ap (push_all (map item_byte c))
    (read-dot (joined (d ∷ ds) ++ 34 ∷ rest) ∙ ap dot (read-joined (d ∷ ds) (omega arith) h.1 rest)
    ∙ dot-closed rest (map item_byte d) (map (map item_byte) ds))
    ∙ push_all-closed (map item_byte c) rest [] (map (map item_byte) (d ∷ ds))
    ∙ ap (λ z. closed rest (z ∷ map (map item_byte) (d ∷ ds))) (append-nil (map item_byte c))

-- the other way round: the items that were read
record Found (text : List ℕ) : Type 0 where
  first : List Item
  others : List (List Item)
  rest : List ℕ
  each : AllByRecursion (AllByRecursion IsItem) (first ∷ others)
  text_is : text ≡ joined (first ∷ others) ++ 34 ∷ rest

joined-item : (i : Item) (is : List Item) (cs : List (List Item)) → joined ((i ∷ is) ∷ cs) ≡ item_text i
    ++ joined (is ∷ cs)
joined-item (Plain b) is [] = refl
joined-item (Plain b) is (d ∷ ds) = refl
joined-item (Escaped b) is [] = refl
joined-item (Escaped b) is (d ∷ ds) = refl

with_item : (i : Item) (text : List ℕ) → IsItem i → Found text → Found (item_text i ++ text)
with_item i text h f = record {
  first = i ∷ f.first;
  others = f.others;
  rest = f.rest;
  each = ((h, f.each.0), f.each.1);
  text_is = ap (λ z. item_text i ++ z) f.text_is
      ∙ sym (append_assoc (item_text i) (joined (f.first ∷ f.others)) (34 ∷ f.rest))
      ∙ ap (λ z. z ++ 34 ∷ f.rest) (sym (joined-item i f.first f.others));
}

with_dot : (text : List ℕ) → Found text → Found (46 ∷ text)
with_dot text f = record {
  first = [];
  others = f.first ∷ f.others;
  rest = f.rest;
  each = (tt, f.each);
  text_is = ap (λ z. 46 ∷ z) f.text_is;
}

-- nothing that ends is read, or the text is a spelling and a rest
found : (text : List ℕ) → (read_from text ≡ Unended) ⊎ Found text
found [] = inl refl
found (b ∷ []) = elim (eqb_tells b 34) [
  | inl e ↦ inr (record { first = []; others = []; rest = []; each = (tt, tt); text_is = ap (λ z. z ∷ []) e.1 })
  | inr n ↦ inl (rw n.0 refl)
]
found (b ∷ c ∷ bs) = elim (eqb_tells b 34) [
  | inl e ↦
      inr (record { first = []; others = []; rest = c ∷ bs; each = (tt, tt); text_is = ap (λ z. z ∷ c ∷ bs) e.1 })
  | inr n ↦ elim (eqb_tells b 92) [
    | inl e ↦ elim (found bs) [
      | inl u ↦ inl (rw (n.0, e.0, u) refl)
      | inr f ↦ inr (rw e.1 (with_item (Escaped c) bs tt f))
    ]
    | inr m ↦ elim (eqb_tells b 46) [
      | inl e ↦ elim (found (c ∷ bs)) [
        | inl u ↦ inl (rw (n.0, m.0, e.0, u) refl)
        | inr f ↦ inr (rw e.1 (with_dot (c ∷ bs) f))
      ]
      | inr o ↦ elim (found (c ∷ bs)) [
        | inl u ↦ inl (rw (n.0, m.0, o.0, u) refl)
        | inr f ↦ inr (with_item (Plain b) (c ∷ bs) (n.1, m.1, o.1) f)
      ]
    ]
  ]
]

-- what was found is read so
found-closed : (text : List ℕ) (f : Found text)
    → read_from text ≡ closed f.rest (map (map item_byte) (f.first ∷ f.others))
found-closed text f = ap read_from f.text_is ∙ read-joined (f.first ∷ f.others) (omega arith) f.each f.rest

spells_found : (first : List Item) (others : List (List Item)) (text : List ℕ)
    → AllByRecursion (AllByRecursion IsItem) (first ∷ others) → text ≡ 34 ∷ joined (first ∷ others) ++ 34 ∷ []
    → Spells text (map (map item_byte) (first ∷ others))
spells_found first others text each e =
    record { items = first ∷ others; some = omega arith; each = each; text_is = e; name_is = refl }

-- a name that is read to the end is spelled by the text
pub read_done : (text : List ℕ) (name : List (List ℕ)) → read_from text ≡ Done name → Spells (34 ∷ text) name
read_done text name e = elim (found text) [
  | inl u ↦ cc (e, u)
  | inr f ↦ done_at text name e f f.rest refl
]
  where
    done_at : (text : List ℕ) (name : List (List ℕ)) → read_from text ≡ Done name → (f : Found text) (rest : List ℕ)
        → f.rest ≡ rest → Spells (34 ∷ text) name
    done_at text name e f [] q =
        let k : Done (map (map item_byte) (f.first ∷ f.others)) ≡ Done name =
        ap (λ z. closed z (map (map item_byte) (f.first ∷ f.others))) (sym q) ∙ sym (found-closed text f) ∙ e in
        let n : map (map item_byte) (f.first ∷ f.others) ≡ name = cc in
        rw (← n) (spells_found f.first f.others (34 ∷ text) f.each
        (ap (λ z. 34 ∷ z) f.text_is ∙ ap (λ z. 34 ∷ joined (f.first ∷ f.others) ++ 34 ∷ z) q))
    done_at text name e f (r ∷ rs) q =
        let k : Trails ≡ Done name = ap (λ z. closed z (map (map item_byte) (f.first ∷ f.others))) (sym q)
        ∙ sym (found-closed text f) ∙ e in
        cc

-- where bytes follow, a shorter front spells a name
pub read_trails : (text : List ℕ) → read_from text ≡ Trails → HasShorter (34 ∷ text)
read_trails text e = elim (found text) [
  | inl u ↦ cc (e, u)
  | inr f ↦ trails_at text e f f.rest refl
]
  where
    trails_at : (text : List ℕ) → read_from text ≡ Trails → (f : Found text) (rest : List ℕ) → f.rest ≡ rest
        → HasShorter (34 ∷ text)
    trails_at text e f [] q =
        let k : Done (map (map item_byte) (f.first ∷ f.others)) ≡ Trails =
        ap (λ z. closed z (map (map item_byte) (f.first ∷ f.others))) (sym q) ∙ sym (found-closed text f) ∙ e in
        cc
    trails_at text e f (r ∷ rs) q =
        let front : List ℕ = 34 ∷ joined (f.first ∷ f.others) ++ 34 ∷ [] in
        let whole : 34 ∷ text ≡ front ++ r ∷ rs = ap (λ z. 34 ∷ z) f.text_is
        ∙ ap (λ z. 34 ∷ joined (f.first ∷ f.others) ++ 34 ∷ z) q
        ∙ sym (append_assoc (34 ∷ joined (f.first ∷ f.others)) (34 ∷ []) (r ∷ rs)) in
        let shorter : length front < length (34 ∷ text) =
        omega (arith, ap length whole, length-append front (r ∷ rs)) in
        let spelled : take (length front) (34 ∷ text) ≡ front = ap (take (length front)) whole
        ∙ take_at front (r ∷ rs) (length front) refl in (
          length front,
          shorter,
          map (map item_byte) (f.first ∷ f.others),
          spells_found f.first f.others
              (take (length front) (34 ∷ text)) f.each spelled,
        )

closed≢Unended : (rest : List ℕ) (name : List (List ℕ)) → closed rest name ≡ Unended → ⊥
closed≢Unended [] name e = cc
closed≢Unended (r ∷ rs) name e = cc

-- where nothing ends, no front spells a name
pub read_unended : (text : List ℕ) → read_from text ≡ Unended → HasNone (34 ∷ text)
read_unended text e n name s =
    let whole : 34 ∷ text ≡ 34 ∷ joined s.items ++ 34 ∷ drop n (34 ∷ text) =
    sym (take-append-drop n (34 ∷ text)) ∙ ap (λ z. z ++ drop n (34 ∷ text)) s.text_is
    ∙ append_assoc (34 ∷ joined s.items) (34 ∷ []) (drop n (34 ∷ text)) in
    let tail : text ≡ joined s.items ++ 34 ∷ drop n (34 ∷ text) = cc in
    closed≢Unended _ _ (sym (read-joined s.items s.some s.each (drop n (34 ∷ text))) ∙ ap read_from (sym tail) ∙ e)

pub quote_first : (q : List ℕ) → (0 < length q) × (slice_index q 0 ≡ 34) → q ≡ 34 ∷ take (length q - 1) (drop 1 q)
quote_first [] h = absurd (omega (arith, h.0))
quote_first (b ∷ bs) h = rw take_rest (ap (λ z. z ∷ bs) h.1)

-- what the three clauses of reading say
pub gives-ok : (r : Result (List (List ℕ)) NameFault) (text : List ℕ) → Gives r (read_from text)
    → IfOk r (λ name. Spells (34 ∷ text) name)
gives-ok (Ok name) text h = read_done text name h
gives-ok (Err e) text h = tt

pub gives-unterminated : (r : Result (List (List ℕ)) NameFault) (text : List ℕ) → Gives r (read_from text)
    → IsErrOf r faults.Unterminated → HasNone (34 ∷ text)
gives-unterminated (Ok name) text h e = cc
gives-unterminated (Err faults.Unterminated) text h e = read_unended text h
gives-unterminated (Err faults.Trailing) text h e = cc
gives-unterminated (Err (faults.Memory memory)) text h e = cc

pub gives-trailing : (r : Result (List (List ℕ)) NameFault) (text : List ℕ) → Gives r (read_from text)
    → IsErrOf r faults.Trailing → HasShorter (34 ∷ text)
gives-trailing (Ok name) text h e = cc
gives-trailing (Err faults.Unterminated) text h e = cc
gives-trailing (Err faults.Trailing) text h e = read_trails text h
gives-trailing (Err (faults.Memory memory)) text h e = cc

-- the relation and the function agree
pub name_read-spells : (text : List ℕ) (name : List (List ℕ)) → name_read text ≡ Some name → Spells text name
name_read-spells [] name e = cc
name_read-spells (b ∷ bs) name e = elim (eqb_tells b 34) [
  | inl q ↦ rw q.1 (done bs name (sym (rw q.0 refl) ∙ e))
  | inr n ↦ absurd (no_name (sym (rw n.0 refl) ∙ e))
]
  where
    no_name : {name : List (List ℕ)} → None ≡ Some name → ⊥
    no_name e = cc

    at_reading : (bs : List ℕ) (name : List (List ℕ)) (r : Reading) → read_from bs ≡ r → done_name r ≡ Some name
        → Spells (34 ∷ bs) name
    at_reading bs name (Done x) q e = read_done bs name (q ∙ cc)
    at_reading bs name Unended q e = cc
    at_reading bs name Trails q e = cc

    done : (bs : List ℕ) (name : List (List ℕ)) → done_name (read_from bs) ≡ Some name → Spells (34 ∷ bs) name
    done bs name e = at_reading bs name (read_from bs) refl e

pub spells-name_read : (text : List ℕ) (name : List (List ℕ)) → Spells text name → name_read text ≡ Some name
spells-name_read text name s = rw (s.text_is, s.name_is) (ap done_name (read-joined s.items s.some s.each []))

pub is_done-push : (b : ℕ) (r : Reading) → is_some (done_name (push b r)) ≡ is_some (done_name r)
is_done-push b (Done []) = refl
is_done-push b (Done (x ∷ xs)) = refl
is_done-push b Unended = refl
is_done-push b Trails = refl

pub is_done-dot : (r : Reading) → is_some (done_name (dot r)) ≡ is_some (done_name r)
is_done-dot (Done []) = refl
is_done-dot (Done (x ∷ xs)) = refl
is_done-dot Unended = refl
is_done-dot Trails = refl

pub ruleset is_done_steps = (is_done-push, is_done-dot)

pub gives-found : (r : Result (List (List ℕ)) NameFault) (text : List ℕ) → Gives r (read_from text)
    → IfOk r (λ name. name_read (34 ∷ text) ≡ Some name)
gives-found (Ok name) text h = ap done_name h
gives-found (Err e) text h = tt

pub gives-missing : (r : Result (List (List ℕ)) NameFault) (text : List ℕ) → Gives r (read_from text)
    → IfErr r (λ e. e ≢ faults.Memory ran_out → name_read (34 ∷ text) ≡ None)
gives-missing (Ok name) text h = tt
gives-missing (Err faults.Unterminated) text h = λ _. ap done_name h
gives-missing (Err faults.Trailing) text h = λ _. ap done_name h
gives-missing (Err (faults.Memory memory)) text h = λ n. absurd (n refl)

closed-none : (rest : List ℕ) (name : List (List ℕ)) → 0 < length rest → done_name (closed rest name) ≡ None
closed-none [] name some = absurd (omega arith)
closed-none (r ∷ rs) name some = refl

-- a front that spells a name, with more after it, is no name's text
front-none : (text : List ℕ) (n : ℕ) (name : List (List ℕ)) → n < length text → Spells (take n text) name
    → name_read text ≡ None
front-none text n name lt s =
    let whole : text ≡ 34 ∷ joined s.items ++ 34 ∷ drop n text =
    sym (take-append-drop n text) ∙ ap (λ z. z ++ drop n text) s.text_is
    ∙ append_assoc (34 ∷ joined s.items) (34 ∷ []) (drop n text) in
    let some : 0 < length (drop n text) = omega (arith, length-drop n text) in
    ap name_read whole ∙ ap done_name (read-joined s.items s.some s.each (drop n text))
    ∙ closed-none (drop n text) _ some

none≢some : {X : Type 0} (x : X) → None ≡ Some x → ⊥
none≢some x e = cc

-- the three answers exclude each other
pub exclusive : (text : List ℕ) → AreExclusive text
exclusive text = record {
  not_shorter = λ name s h. none≢some name (sym (front-none text h.0 h.2 h.1 h.3) ∙ spells-name_read text name s);
  not_none = λ name s h. h (length text) name
      (subst (λ z. Spells z name) (sym (take_all (length text) text (omega arith))) s);
  shorter_not_none = λ h none. none h.0 h.2 h.3;
}

-- one of them holds
pub has_answer : (text : List ℕ) → HasAnswer (34 ∷ text)
has_answer text = at (read_from text) refl
  where
    at : (r : Reading) → read_from text ≡ r → HasAnswer (34 ∷ text)
    at (Done name) e = inl (name, read_done text name e)
    at Unended e = inr (inr (read_unended text e))
    at Trails e = inr (inl (read_trails text e))

pub gives-named : (r : Result (List (List ℕ)) NameFault) (text : List ℕ) → Gives r (read_from text) → IfOk r IsName
gives-named (Ok name) text h =
    let s = read_done text name h in
    subst IsName (sym s.name_is) (omega (arith, s.some, length-map s.items (map item_byte)))
gives-named (Err e) text h = tt
