-- The list of lists of a definition, along the cons tree of its origin.
use Rattle.std.specs.Prelude.{◌≡◌, ◌<◌, ◌≤◌, ◌+◌, ℕ, pos, List, [], ◌∷◌, ◌++◌, length}
use Rattle.std.specs.Prelude.{map, take, drop, set, slice_get, slice_index_or, Some}
use Rattle.std.specs.List.{All}
use Rattle.std.proofs.Common.{refl, sym, ◌∙◌, ap, subst, arith, length-append}
use Rattle.std.proofs.lemmas.Option.{get_or_from_slice_get}
use Rattle.std.proofs.lemmas.List.{map-append, map_more, get_or-append-add}
use Rattle.std.proofs.lemmas.List.Elements.{All-nil, All-head, All-tail, All-set, All-push}
use Rattle.std.proofs.lemmas.Simd.{map-map}
use Rattle.ot_logic.specs.Names.{Name}
use Rattle.ot_logic.specs.declared.command.Cmd.TheVariants as words
use Rattle.ot_kernel.specs.State as kernel
use Rattle.ot_trace.specs.Origins.{Origin, Origins, Number, Named, Make, Define, Outcome, NoOrigins}
use Rattle.ot_trace.specs.Origins.{MoreOrigins, from_list, make_two, elements, operand, constant_origin}
use Rattle.ot_trace.specs.Origins.{renamed_first, renamed_pairs, map_origin, map_origins}
use Rattle.ot_trace.specs.Trace.{origins_at, IsBelow}
use Rattle.ot_trace.specs.Trace as trace
use Rattle.ot_trace.specs.declared.step.Step.{Step}
use Rattle.ot_trace.specs.declared.step.Step.TheVariants as steps
use Rattle.ot_machine.specs.declared.session.Session.{Session}
use Rattle.ot_machine.specs.Meaning.{origin_of, AreNamesBelow, IsRun, Traces}
use Rattle.ot_machine.specs.RenamedLists.{cons_numbers, list_onto, BeginsWith}
use Rattle.ot_machine.proofs.Traced.{traced-origin, number-later, origin-number, operands-read}

-- ---- elements before a list
module _ {N : Type 0} where
  pub elements-onto : (ps : List (Origin N)) (o : Origin N) → elements o ≡ [] → elements (list_onto ps o) ≡ ps
  elements-onto [] o e = e
  elements-onto (p ∷ ps) o e = ap (λ qs. p ∷ qs) (elements-onto ps o e)

  -- made from its end
  pub onto-push : {X : Type 0} (f : X → Origin N) (xs : List X) (x : X) (o : Origin N)
      → list_onto (map f (xs ++ x ∷ [])) o ≡ list_onto (map f xs) (make_two words.Cons (f x) o)
  onto-push f [] x o = refl
  onto-push f (y ∷ xs) x o = ap (make_two words.Cons (f y)) (onto-push f xs x o)

  pub renamed-onto : (f : N → N) (ps : List (Origin N)) (o : Origin N) → renamed_pairs f o ≡ o
      → renamed_pairs f (list_onto ps o) ≡ list_onto (map (renamed_first f) ps) o
  renamed-onto f [] o e = e
  renamed-onto f (p ∷ ps) o e = ap (make_two words.Cons (renamed_first f p)) (renamed-onto f ps o e)

pub onto-read : {M N : Type 0} (g : M → N) (ps : List (Origin M)) (o : Origin M)
    → map_origin g (list_onto ps o) ≡ list_onto (map (map_origin g) ps) (map_origin g o)
onto-read g [] o = refl
onto-read g (p ∷ ps) o = ap (make_two words.Cons (map_origin g p)) (onto-read g ps o)

-- what has no elements stays under other names
no-elements : {X : Type 0} (x : X) (xs : List X) → x ∷ xs ≡ [] → ⊥
no-elements x xs e = cc

pub end-renamed : {M N : Type 0} (g : M → N) (f : N → N) (o : Origin M) → elements o ≡ []
    → renamed_pairs f (map_origin g o) ≡ map_origin g o
end-renamed g f (Number k) e = refl
end-renamed g f (Named n) e = refl
end-renamed g f (Define w os) e = refl
end-renamed g f (Outcome j d) e = refl
end-renamed g f (Make words.Cons NoOrigins) e = refl
end-renamed g f (Make words.Cons (MoreOrigins a NoOrigins)) e = refl
end-renamed g f (Make words.Cons (MoreOrigins a (MoreOrigins b NoOrigins))) e = absurd (no-elements a (elements b) e)
end-renamed g f (Make words.Cons (MoreOrigins a (MoreOrigins b (MoreOrigins c os)))) e = refl
end-renamed g f (Make w os) e = refl

-- ---- what `cons` made, by its numbers
pub cons-below : (k : ℕ) (s : Step) → IsBelow k s → All (λ i. i < k) (cons_numbers s)
cons-below k (steps.Make words.Cons ops) h = h
cons-below k s h = All-nil (λ i. i < k)

pub cons-is : (ts : List (Origin ℕ)) (s : Step) (i : ℕ) (is : List ℕ) → cons_numbers s ≡ i ∷ is
    → trace.origin_of ts s ≡ Make words.Cons (MoreOrigins (trace.origin_at ts i) (origins_at ts is))
cons-is ts (steps.Make words.Cons ops) i is e = ap (λ js. Make words.Cons (origins_at ts js)) e
cons-is ts s i is e = absurd (no-elements i is (sym e))

no-two : (ts : List (Origin ℕ)) (is : List ℕ) → (length is ≡ 2 → ⊥) → elements (Make words.Cons (origins_at ts is))
    ≡ []
no-two ts [] other = refl
no-two ts (i ∷ []) other = refl
no-two ts (i ∷ j ∷ []) other = absurd (other refl)
no-two ts (i ∷ j ∷ k ∷ is) other = refl

pub end-step : (ts : List (Origin ℕ)) (s : Step) → (length (cons_numbers s) ≡ 2 → ⊥) → elements (trace.origin_of ts s)
    ≡ []
end-step ts (steps.Make words.Cons ops) other = no-two ts ops other
end-step ts s other = refl

-- ---- the begin of a list
-- nothing that `cons` made, or of nothing
pub no-begin : (ts : List (Origin ℕ)) (s : Step) (g : ℕ → Name) (f : Name → Name) → cons_numbers s ≡ []
    → renamed_first f (map_origin g (trace.origin_of ts s)) ≡ map_origin g (trace.origin_of ts s)
no-begin ts (steps.Make words.Cons ops) g f e = subst
    (λ is. renamed_first f (Make words.Cons (map_origins g (origins_at ts is)))
    ≡ Make words.Cons (map_origins g (origins_at ts is))) (sym e) refl
no-begin ts s g f e = refl

-- no name
pub other-begin : (ts : List (Origin ℕ)) (s : Step) (g : ℕ → Name) (f : Name → Name) (os : Origins Name)
    → ((n : ℕ) → s ≡ steps.Name n → ⊥)
    → renamed_first f (Make words.Cons (MoreOrigins (map_origin g (trace.origin_of ts s)) os))
    ≡ Make words.Cons (MoreOrigins (map_origin g (trace.origin_of ts s)) os)
other-begin ts (steps.Number k) g f os other = refl
other-begin ts (steps.Name n) g f os other = absurd (other n refl)
other-begin ts (steps.Make w ops) g f os other = refl
other-begin ts (steps.Define w ops syms) g f os other = refl
other-begin ts (steps.Outcome j d) g f os other = refl

-- the first of numbers
pub first-of : (is : List ℕ) (i : ℕ) → (length is ≡ 0 → ⊥) → i ≡ slice_index_or is 0 i → is ≡ i ∷ drop 1 is
first-of [] i some e = absurd (some refl)
first-of (j ∷ is) i some e = ap (λ k. k ∷ is) (sym e)

pub none-of : (is js : List ℕ) → js ≡ is → length js ≡ 0 → is ≡ []
none-of [] js e len = refl
none-of (i ∷ is) js e len = absurd (omega (arith, ap length e, len))

pub both-of : (is : List ℕ) (i j : ℕ) → length is ≡ 2 → i ≡ slice_index_or is 0 i → j ≡ slice_index_or is 1 j
    → is ≡ i ∷ j ∷ []
both-of [] i j len e f = absurd (omega (arith, len))
both-of (a ∷ []) i j len e f = absurd (omega (arith, len))
both-of (a ∷ b ∷ []) i j len e f = λ k. sym e k ∷ sym f k ∷ []
both-of (a ∷ b ∷ c ∷ is) i j len e f = absurd (omega (arith, len))

-- the origin of a step of the table
step-at : (ts : List (Origin ℕ)) (i : ℕ) (s : Step) → slice_get ts i ≡ Some (trace.origin_of ts s)
    → trace.origin_at ts i ≡ trace.origin_of ts s
step-at ts i s get = get_or_from_slice_get ts i (trace.origin_of ts s) (Number (pos 0)) get

-- the step of a list that was read
module _ (ts : List (Origin ℕ)) (i : ℕ) (s : Step) (get : slice_get ts i ≡ Some (trace.origin_of ts s)) where
  pub parts-read : (h t : ℕ) → cons_numbers s ≡ h ∷ t ∷ []
      → trace.origin_at ts i ≡ make_two words.Cons (trace.origin_at ts h) (trace.origin_at ts t)
  parts-read h t e = step-at ts i s get ∙ cons-is ts s h (t ∷ []) e

  pub end-read : (length (cons_numbers s) ≡ 2 → ⊥) → elements (trace.origin_at ts i) ≡ []
  end-read other = ap elements (step-at ts i s get) ∙ end-step ts s other

  pub no-begin_read : (g : ℕ → Name) (f : Name → Name) → cons_numbers s ≡ []
      → renamed_first f (map_origin g (trace.origin_at ts i)) ≡ map_origin g (trace.origin_at ts i)
  no-begin_read g f e = subst (λ o. renamed_first f (map_origin g o) ≡ map_origin g o) (sym (step-at ts i s get))
      (no-begin ts s g f e)

  -- with its first number
  module _ (j : ℕ) (is : List ℕ) (are : cons_numbers s ≡ j ∷ is) (r : Step)
      (first : slice_get ts j ≡ Some (trace.origin_of ts r)) where
    begin-is : trace.origin_at ts i ≡ Make words.Cons (MoreOrigins (trace.origin_of ts r) (origins_at ts is))
    begin-is = step-at ts i s get ∙ cons-is ts s j is are
        ∙ ap (λ o. Make words.Cons (MoreOrigins o (origins_at ts is))) (step-at ts j r first)

    pub other_begin-read : (g : ℕ → Name) (f : Name → Name) → ((n : ℕ) → r ≡ steps.Name n → ⊥)
        → renamed_first f (map_origin g (trace.origin_at ts i)) ≡ map_origin g (trace.origin_at ts i)
    other_begin-read g f other = subst (λ o. renamed_first f (map_origin g o) ≡ map_origin g o) (sym begin-is)
        (other-begin ts r g f (map_origins g (origins_at ts is)) other)

    pub begin-read : (n : ℕ) → r ≡ steps.Name n → BeginsWith (trace.origin_at ts i) n
    begin-read n e = record {
      rest = origins_at ts is;
      is = begin-is
          ∙ ap (λ q. Make words.Cons (MoreOrigins (trace.origin_of ts q) (origins_at ts is))) e;
    }

    -- a name of the table is of the kernel
    pub begin-inside : (k n : ℕ) → All (AreNamesBelow k) ts → j < length ts → r ≡ steps.Name n → n < k
    begin-inside k n named inside e = subst (AreNamesBelow k) (step-at ts j r first ∙ ap (trace.origin_of ts) e)
        (named j (Number (pos 0)) inside)

-- a list that begins with another name
pub begin-renamed : (g : ℕ → Name) (f : Name → Name) (o : Origin ℕ) (n m : ℕ) → BeginsWith o n → g m ≡ f (g n)
    → renamed_first (λ x. g m) (map_origin g o) ≡ renamed_first f (map_origin g o)
begin-renamed g f o n m begins e =
    ap (λ p. renamed_first (λ x. g m) (map_origin g p)) begins.is
    ∙ (λ i. Make words.Cons (MoreOrigins (Named (e i)) (map_origins g begins.rest)))
    ∙ ap (λ p. renamed_first f (map_origin g p)) (sym begins.is)

-- the numbers of such a step
pub record AreBegun (ts : List (Origin ℕ)) (s : Step) (os : Origins ℕ) : Type 0 where
  pub first : ℕ
  pub rest : List ℕ
  pub are : cons_numbers s ≡ first ∷ rest
  pub rest_is : origins_at ts rest ≡ os

pub begun : (ts : List (Origin ℕ)) (s : Step) (o : Origin ℕ) (os : Origins ℕ)
    → trace.origin_of ts s ≡ Make words.Cons (MoreOrigins o os) → AreBegun ts s os
begun ts (steps.Make words.Cons ops) o os e = by ops refl e
  where
    by : (is : List ℕ) → ops ≡ is → Make words.Cons (origins_at ts is) ≡ Make words.Cons (MoreOrigins o os)
        → AreBegun ts (steps.Make words.Cons ops) os
    by [] are p = absurd (cc)
    by (i ∷ is) are p = record { first = i; rest = is; are = are; rest_is = cc }
begun ts s o os e = absurd (cc)

-- ---- over a session that grew
module _ (s t : Session) (h : IsRun s) (traced : Traces s t) where
  pub origins-later : (is : List ℕ) → All (λ i. i < length s.trace) is → map (origin_of t) is ≡ map (origin_of s) is
  origins-later [] inside = refl
  origins-later (j ∷ is) inside =
      let a = traced-origin s t h traced j (All-head (λ i. i < length s.trace) j is inside) in
      let b = origins-later is (All-tail (λ i. i < length s.trace) j is inside) in
      λ i. a i ∷ b i

  pub numbers-later : (is : List ℕ) → All (λ i. i < length s.trace) is
      → map (trace.origin_at t.trace) is ≡ map (trace.origin_at s.trace) is
  numbers-later [] inside = refl
  numbers-later (j ∷ is) inside =
      let a = number-later s t traced j (All-head (λ i. i < length s.trace) j is inside) in
      let b = numbers-later is (All-tail (λ i. i < length s.trace) j is inside) in
      λ i. a i ∷ b i

-- ---- the whole list
-- under other names
pub list-renamed : (s : Session) (f : Name → Name) (list end : ℕ) (found : List ℕ)
    → trace.origin_at s.trace list ≡ list_onto (map (trace.origin_at s.trace) found) (trace.origin_at s.trace end)
    → elements (trace.origin_at s.trace end) ≡ []
    → renamed_pairs f (origin_of s list) ≡ list_onto (map (λ i. renamed_first f (origin_of s i)) found)
    (origin_of s end)
list-renamed s f list end found read ends =
    let at = trace.origin_at s.trace in
    let g = kernel.name_at s.kernel in
    let named = ap (map_origin g) read ∙ onto-read g (map at found) (at end)
    ∙ ap (λ ps. list_onto ps (origin_of s end)) (map-map (map_origin g) at found) in
    ap (renamed_pairs f) named ∙ renamed-onto f (map (origin_of s) found) (origin_of s end)
    (end-renamed g f (at end) ends)
    ∙ ap (λ ps. list_onto ps (origin_of s end)) (map-map (renamed_first f) (origin_of s) found)

-- made from its end, over names
pub list-made : (s t : Session) → Traces s t → (list end : ℕ) (found : List ℕ)
    → trace.origin_at t.trace list ≡ list_onto (map (trace.origin_at s.trace) found) (trace.origin_at s.trace end)
    → origin_of t list ≡ list_onto (map (origin_of s) found) (origin_of s end)
list-made s t traced list end found made =
    let at = trace.origin_at s.trace in
    let g = kernel.name_at s.kernel in
    origin-number s t traced list (list_onto (map at found) (at end)) made ∙ onto-read g (map at found) (at end)
    ∙ ap (λ ps. list_onto ps (origin_of s end)) (map-map (map_origin g) at found)

-- the constants of its elements
pub constants-made : (s t : Session) → IsRun s → Traces s t
    → (end : ℕ) (found : List ℕ) (symbols : List (Origin ℕ)) (o : Origin ℕ) → All (λ i. i < length s.trace) found
    → elements (trace.origin_at s.trace end) ≡ []
    → o ≡ list_onto (map (trace.origin_at s.trace) found) (trace.origin_at s.trace end)
    → symbols ≡ map (λ i. constant_origin (operand 0 (trace.origin_at t.trace i))) found
    → symbols ≡ map (λ pair. constant_origin (operand 0 pair)) (elements o)
constants-made s t h traced end found symbols o inside ends made are =
    let at = trace.origin_at s.trace in
    let symbol : Origin ℕ → Origin ℕ = λ pair. constant_origin (operand 0 pair) in
    are ∙ sym (map-map symbol (trace.origin_at t.trace) found)
    ∙ ap (map symbol) (numbers-later s t h traced found inside ∙ sym (elements-onto (map at found) (at end) ends)
    ∙ ap elements (sym made))

-- a list with another name at its begin
module _ (s t : Session) (h : IsRun s) (traced : Traces s t) (pair n : ℕ)
    (inside : pair < length s.trace) (begins : BeginsWith (trace.origin_at s.trace pair) n) (r : Step)
    (get : slice_get t.trace pair ≡ Some (trace.origin_of t.trace r)) where
  numbers-begun : AreBegun t.trace r begins.rest
  numbers-begun = begun t.trace r (Named n) begins.rest
      (sym (step-at t.trace pair r get) ∙ number-later s t traced pair inside ∙ begins.is)

  pub begun-some : 0 < length (cons_numbers r)
  begun-some = subst (λ (is : List ℕ). 0 < length is) (sym numbers-begun.are) (omega arith)

  pub begun-made : (is : List ℕ) (begin : ℕ) (name : Name) → origin_of t begin ≡ Named name
      → is ≡ set (cons_numbers r) 0 begin
      → Make words.Cons (from_list (map (origin_of t) is)) ≡ renamed_first (λ x. name) (origin_of s pair)
  begun-made is begin name e set_is =
      let b = numbers-begun in
      let g = kernel.name_at t.kernel in
      let items : is ≡ begin ∷ b.rest = set_is ∙ ap (λ (js : List ℕ). set js 0 begin) b.are in
      let rest = sym (operands-read g t.trace b.rest) ∙ ap (map_origins g) b.rest_is in
      let old = ap (map_origin g) (sym begins.is) ∙ ap (map_origin g) (sym (number-later s t traced pair inside))
      ∙ traced-origin s t h traced pair inside in
      ap (λ js. Make words.Cons (from_list (map (origin_of t) js))) items
      ∙ (λ i. Make words.Cons (MoreOrigins (e i) (rest i)))
      ∙ ap (renamed_first (λ x. name)) old

  pub begun-inside : (is : List ℕ) (begin : ℕ) → pair < length t.trace → IsBelow pair r → begin < length t.trace
      → is ≡ set (cons_numbers r) 0 begin → All (λ i. i < length t.trace) is
  begun-inside is begin there below lt set_is =
      let P = λ (i : ℕ). i < length t.trace in
      let old : All P (cons_numbers r) = λ k d q. let x = cons-below pair r below k d q in omega (arith, x, there) in
      subst (All P) (sym set_is) (All-set P (cons_numbers r) 0 begin lt old)

-- ---- one more of a loop
-- the last one of a list
pub All-last : (P : ℕ → Type 0) (xs : List ℕ) (x : ℕ) → All P (xs ++ x ∷ []) → P x
All-last P xs x all = subst P (get_or-append-add xs (x ∷ []) 0 x)
    (all (length xs + 0) x (omega (arith, length-append xs (x ∷ []))))

pub item-inside : (P : ℕ → Type 0) (xs : List ℕ) (i x : ℕ) → All P xs → i < length xs → x ≡ slice_index_or xs i x
    → P x
item-inside P xs i x all lt is = subst P (sym is) (all i x lt)

pub one-more : {Y : Type 0} (read f : ℕ → Y) (ys zs : List ℕ) (y : ℕ) (xs : List ℕ) (i x : ℕ) → i < length xs
    → x ≡ slice_index_or xs i x → zs ≡ ys ++ y ∷ [] → map read ys ≡ map f (take i xs) → read y ≡ f x
    → map read zs ≡ map f (take (i + 1) xs)
one-more read f ys zs y xs i x lt is items before now =
    ap (map read) items
    ∙ map-append read ys (y ∷ [])
    ∙ (λ k. before k ++ now k ∷ [])
    ∙ ap (λ z. map f (take i xs) ++ f z ∷ []) is
    ∙ sym (map_more f xs i x lt)

pub more-inside : (m n : ℕ) (ys zs : List ℕ) (y : ℕ) → m ≤ n → All (λ i. i < m) ys → y < n → zs ≡ ys ++ y ∷ []
    → All (λ i. i < n) zs
more-inside m n ys zs y le all lt items =
    let P = λ (i : ℕ). i < n in
    subst (All P) (sym items) (All-push P ys y (λ k d q. let x = all k d q in omega (arith, x, le)) lt)
