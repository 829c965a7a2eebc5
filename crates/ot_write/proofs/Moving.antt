-- The writer's steps, over plain values.
use Rattle.std.proofs.Common.{◌≡◌, ◌≢◌, ℕ, zero, suc, ◌+◌, ◌-◌, ◌<◌, ◌≤◌, cond, List, [], ◌∷◌}
use Rattle.std.proofs.Common.{◌++◌, map, length, reverse, slice_get, slice_index_or, Option, None, Some}
use Rattle.std.proofs.Common.{Result, Ok, Err, OnOk, refl, sym, ap, subst, ◌∙◌, arith, append-nil}
use Rattle.std.specs.Prelude.{pos, ℤ, nat_le}
use Rattle.std.specs.List.{All, AllByRecursion}
use Rattle.std.proofs.lemmas.List.{reverse-append}
use Rattle.std.proofs.lemmas.Grind.{flat_map-append}
use Rattle.std.proofs.lemmas.Bool.{le-leb, lt-leb}
use Rattle.ot_logic.specs.Names.{Name}
use Rattle.ot_logic.specs.declared.command.Cmd.{Cmd}
use Rattle.ot_logic.specs.declared.command.Cmd.TheVariants as words
use Rattle.ot_trace.specs.Origins as o
use Rattle.ot_trace.specs.Origins.{Origin, Origins}
use Rattle.ot_written.specs.Written as w
use Rattle.ot_written.specs.Written.{Text, Line}
use Rattle.ot_written.specs.Bytes.{line_bytes}
use Rattle.ot_write.specs.Emitting.{number_line, number_lines}
use Rattle.ot_logic.specs.Lists.{AreDistinct}
use Rattle.ot_logic.specs.Table.{IsInjective}
use Rattle.ot_logic.proofs.Naming.{name_of-at}
use Rattle.ot_logic.proofs.Members.{IsMember-place}
use Rattle.ot_write.specs.Limited as limit
use Rattle.ot_write.specs.declared.writer.Writer.{Writer}
use Rattle.ot_write.specs.declared.writer.Task.{Task}
use Rattle.ot_write.specs.declared.writer.Task.TheVariants as task
use Rattle.ot_trace.specs.declared.step.Step.{Step}
use Rattle.ot_trace.specs.declared.step.Step.TheVariants as step
use Rattle.ot_trace.specs.Trace.{IsBelow, IsStepTable, operand_numbers, origin_at, origins_at, origin_of}
use Rattle.ot_write.specs.Emitting.{same, ArePlacesBelow, Given, given, HasKeys, Shows, Moves, Replaces, keep}
use Rattle.ot_write.specs.Emitting.{used, begin, close, perform, rest, cost, cost_all, task_cost, total, count_of}
use Rattle.ot_write.proofs.Putting.{put-put}
use Rattle.ot_write.proofs.Keys.{get-of, origin-here, once-at, count-at, count-none}

-- ---- one line more

lines-more : (ns : List Name) (ls : List (Line ℕ)) (l : Line ℕ) → number_lines ns (ls ++ l ∷ []) ≡ number_lines ns ls
    ++ number_line ns l
lines-more ns ls l = flat_map-append (number_line ns) ls (l ∷ [])
    ∙ ap (λ z. number_lines ns ls ++ z) (append-nil (number_line ns l))

module _ (g : Given) (old mid : Writer) (l : Line ℕ)
    (e : limit.limited mid.text ≡ limit.put (number_line g.names l) (limit.limited old.text))
    (k : mid.stored.items ≡ old.stored.items) (max : ℕ) (t : Text ℕ) (s : Shows g max old t) where
  put-bytes : limit.limited mid.text ≡ limit.put (number_lines g.names (t.lines ++ l ∷ [])) (limit.Bytes [] max)
  put-bytes = e ∙ ap (limit.put (number_line g.names l)) s.bytes
      ∙ put-put (number_lines g.names t.lines) (number_line g.names l) (limit.Bytes [] max)
      ∙ ap (λ z. limit.put z (limit.Bytes [] max)) (sym (lines-more g.names t.lines l))

  pub shows-put : Shows g max mid (w.put same l t)
  shows-put = record { bytes = put-bytes; stored = ap (map (origin_at g.trees)) k ∙ s.stored }

  pub shows-make : (x : Origin ℕ) → Shows g max mid (w.make same x l t)
  shows-make x = record { bytes = put-bytes; stored = ap (map (origin_at g.trees)) k ∙ s.stored }

-- ---- what leads to the whole: once f is done too

abbrev pub Leads : Given → Writer → Writer → (Text ℕ → Text ℕ) → (Text ℕ → Text ℕ) → Type 0
Leads g start now f whole = (max : ℕ) (t : Text ℕ) → Shows g max start t → (u : Text ℕ) × Shows g max now u
    × (f u ≡ whole t)

module _ (g : Given) (start : Writer) where
  pub leads-step : (mid new : Writer) (f h f2 whole : Text ℕ → Text ℕ) → Leads g start mid f whole → Moves g mid new h
      → ((u : Text ℕ) → f2 (h u) ≡ f u) → Leads g start new f2 whole
  leads-step mid new f h f2 whole a m e = λ max t s. let b = a max t s in (h b.0, m max b.0 b.1, e b.0 ∙ b.2)

  pub leads-end : (now : Writer) (f whole : Text ℕ → Text ℕ) → Leads g start now f whole → ((u : Text ℕ) → f u ≡ u)
      → Moves g start now whole
  leads-end now f whole a e = λ max t s. let b = a max t s in subst (λ z. Shows g max now z) (sym (e b.0) ∙ b.2) b.1

-- ---- the work list

module _ (g : Given) where
  pub rest-append : (xs ys : List Task) (t : Text ℕ) → rest g (xs ++ ys) t ≡ rest g xs (rest g ys t)
  rest-append [] ys t = refl
  rest-append (x ∷ xs) ys t = ap (perform g x) (rest-append xs ys t)

  -- operands that are asked for from the last to the first
  pub rest-operands : (is : List ℕ) (t : Text ℕ) → rest g (reverse (map task.Write is)) t
      ≡ w.emit_all same (keep g) (origins_at g.trees is) t
  rest-operands [] t = refl
  rest-operands (i ∷ is) t =
      ap (λ l. rest g l t) (reverse-append (task.Write i ∷ []) (map task.Write is))
      ∙ rest-append (reverse (map task.Write is)) (task.Write i ∷ []) t
      ∙ rest-operands is (w.emit same (keep g) (origin_at g.trees i) t)

  -- a step whose operands are asked for, and then its line
  pub rest-asked : (id : ℕ) (old : List Task) (ops : List ℕ) (t : Text ℕ)
      → rest g ((old ++ task.Close id ∷ []) ++ reverse (map task.Write ops)) t
      ≡ rest g old (close g (origin_at g.trees id) (w.emit_all same (keep g) (origins_at g.trees ops) t))
  rest-asked id old ops t =
      rest-append (old ++ task.Close id ∷ []) (reverse (map task.Write ops)) t
      ∙ ap (rest g (old ++ task.Close id ∷ [])) (rest-operands ops t)
      ∙ rest-append old (task.Close id ∷ []) (w.emit_all same (keep g) (origins_at g.trees ops) t)

  module _ (start : Writer) (whole : Text ℕ → Text ℕ) where
    pub leads-more : (mid new : Writer) (all before after : List Task) (k : Task) → all ≡ before ++ k ∷ []
        → Leads g start mid (rest g all) whole → Replaces g mid new before after (perform g k)
        → Leads g start new (rest g after) whole
    leads-more mid new all before after k e h p = λ max t s.
        let a = h max t s in
        let b = p max a.0 a.1 in
        (b.0, b.1, b.2 ∙ sym (rest-append before (k ∷ []) a.0) ∙ ap (λ l. rest g l a.0) (sym e) ∙ a.2)

module _ (ts : List (Origin ℕ)) where
  pub total-append : (xs ys : List Task) → total ts (xs ++ ys) ≡ total ts xs + total ts ys
  total-append [] ys = omega arith
  total-append (x ∷ xs) ys = let h = total-append xs ys in omega arith

  pub total-operands : (is : List ℕ) → total ts (reverse (map task.Write is)) ≡ cost_all (origins_at ts is)
  total-operands [] = refl
  total-operands (i ∷ is) =
      let e = ap (total ts) (reverse-append (task.Write i ∷ []) (map task.Write is)) in
      let h = total-append (reverse (map task.Write is)) (task.Write i ∷ []) in
      let k = total-operands is in
      omega (arith, e, h, k)

pub pop-cheaper : (ts : List (Origin ℕ)) (all before after : List Task) (k : Task) → all ≡ before ++ k ∷ []
    → total ts after < total ts before + task_cost ts k → total ts after < total ts all
pop-cheaper ts all before after k e h =
    let a = ap (total ts) e in
    let b = total-append ts before (k ∷ []) in
    omega (arith, a, b, h)

pub origin-of-get : (ts : List (Origin ℕ)) (i : ℕ) (x : Origin ℕ) → slice_get ts i ≡ Some x → origin_at ts i ≡ x
origin-of-get [] i x h = absurd (cc)
origin-of-get (t ∷ ts) zero x h = let e : t ≡ x = cc in e
origin-of-get (t ∷ ts) (suc i) x h = origin-of-get ts i x h

-- the origin of a number whose step is read
pub tree-is : (ts : List (Origin ℕ)) (id : ℕ) (r s : Step) → slice_get ts id ≡ Some (origin_of ts r) → r ≡ s
    → origin_at ts id ≡ origin_of ts s
tree-is ts id r s at e = origin-of-get ts id (origin_of ts r) at ∙ ap (origin_of ts) e

pub always : {E : Type 0} (r : Result (Unit {0}) E) {P : Type 0} → P → OnOk r P
always (Ok u) p = p
always (Err e) p = tt

cost-some : (x : Origin ℕ) → 0 < cost x
cost-some (o.Number k) = omega arith
cost-some (o.Named n) = omega arith
cost-some (o.Make c os) = omega arith
cost-some (o.Define c os) = omega arith
cost-some (o.Outcome j d) = omega arith

pub cheaper-same : {E : Type 0} (r : Result (Unit {0}) E) (ts : List (Origin ℕ)) (ws : List Task) (x : Origin ℕ)
    → OnOk r (total ts ws < total ts ws + cost x)
cheaper-same r ts ws x = always r (let h = cost-some x in omega arith)

pub at-once : {E : Type 0} (r : Result (Unit {0}) E) (g : Given) (old new : Writer) (ws : List Task) (f h : Text ℕ
    → Text ℕ) → ((t : Text ℕ) → f t ≡ h t) → OnOk r (Moves g old new f) → OnOk r (Replaces g old new ws ws h)
at-once (Ok u) g old new ws f h e m = λ max t s. (f t, m max t s, ap (rest g ws) (e t))
at-once (Err u) g old new ws f h e m = tt

-- a line, and then what is stored
pub finished : {E : Type 0} (r : Result (Unit {0}) E) (g : Given) (old mid new : Writer) (x : Origin ℕ) (l : Line ℕ)
    → limit.limited mid.text ≡ limit.put (number_line g.names l) (limit.limited old.text)
    → mid.stored.items ≡ old.stored.items
    → OnOk r (Moves g mid new (λ t. cond (nat_le 2 (count_of g.trees g.counts x)) (w.store same x t) t))
    → OnOk r (Moves g old new (λ t. w.keep_made same (keep g) x (w.make same x l t)))
finished (Ok u) g old mid new x l e k m = λ max t s. m max (w.make same x l t) (shows-make g old mid l e k max t s x)
finished (Err u) g old mid new x l e k m = tt

pub begin-name : (g : Given) (x : Origin ℕ) (n : ℕ) → x ≡ o.Named n → (t : Text ℕ)
    → w.keep_made same (keep g) x (w.make same x (w.Spelled n) t) ≡ begin g x t
begin-name g x n e t = subst (λ z. w.keep_made same (keep g) z (w.make same z (w.Spelled n) t) ≡ begin g z t)
    (sym e) refl

pub begin-number : (g : Given) (x : Origin ℕ) (k : ℤ) → x ≡ o.Number k → (t : Text ℕ) → w.put same (w.Numeral k) t
    ≡ begin g x t
begin-number g x k e t = subst (λ z. w.put same (w.Numeral k) t ≡ begin g z t) (sym e) refl

pub begin-define : (g : Given) (x : Origin ℕ) (c : Cmd) (os : Origins ℕ) → x ≡ o.Define c os → (t : Text ℕ)
    → t ≡ begin g x t
begin-define g x c os e t = subst (λ z. t ≡ begin g z t) (sym e) refl

pub begin-outcome : (g : Given) (x : Origin ℕ) (j : ℕ) (d : Origin ℕ) → x ≡ o.Outcome j d → (t : Text ℕ)
    → t ≡ begin g x t
begin-outcome g x j d e t = subst (λ z. t ≡ begin g z t) (sym e) refl

pub close-make : (g : Given) (x : Origin ℕ) (c : Cmd) (os : Origins ℕ) → x ≡ o.Make c os → (t : Text ℕ)
    → w.keep_made same (keep g) x (w.make same x (w.Order c) t) ≡ close g x t
close-make g x c os e t = subst (λ z. w.keep_made same (keep g) z (w.make same z (w.Order c) t) ≡ close g z t)
    (sym e) refl

pub moves-same : {E : Type 0} (r : Result (Unit {0}) E) (g : Given) (old new : Writer) (f h : Text ℕ → Text ℕ)
    → ((t : Text ℕ) → f t ≡ h t) → OnOk r (Moves g old new f) → OnOk r (Moves g old new h)
moves-same (Ok u) g old new f h e m = λ max t s. subst (λ z. Shows g max new z) (e t) (m max t s)
moves-same (Err u) g old new f h e m = tt

pub numbered : {E : Type 0} (r : Result (Unit {0}) E) (g : Given) (old new : Writer) (k : ℤ)
    → OnOk r (limit.limited new.text ≡ limit.put (number_line g.names (w.Numeral k)) (limit.limited old.text))
    → new.stored.items ≡ old.stored.items → OnOk r (Moves g old new (λ t. w.put same (w.Numeral k) t))
numbered (Ok u) g old new k e s = λ max t h. shows-put g old new (w.Numeral k) e s max t h
numbered (Err u) g old new k e s = tt

module _ (g : Given) (old new : List Task) (id : ℕ) (c : Cmd) (ops : List ℕ)
    (e : origin_at g.trees id ≡ o.Make c (origins_at g.trees ops)) where
  asked-one : new ≡ (old ++ task.Close id ∷ []) ++ reverse (map task.Write ops) → (t : Text ℕ)
      → rest g new t ≡ rest g old (begin g (origin_at g.trees id) t)
  asked-one a t =
      let all : Text ℕ = w.emit_all same (keep g) (origins_at g.trees ops) t in
      ap (λ l. rest g l t) a ∙ rest-asked g id old ops t
      ∙ ap (rest g old) (subst (λ z. close g z all ≡ begin g z t) (sym e) refl)

  pub asked : {E : Type 0} (r : Result (Unit {0}) E) (wr : Writer)
      → OnOk r (new ≡ (old ++ task.Close id ∷ []) ++ reverse (map task.Write ops))
      → OnOk r (Replaces g wr wr old new (begin g (origin_at g.trees id)))
  asked (Ok u) wr a = λ max t h. (t, h, asked-one a t)
  asked (Err u) wr a = tt

  cheaper-one : new ≡ (old ++ task.Close id ∷ []) ++ reverse (map task.Write ops)
      → total g.trees new < total g.trees old + cost (origin_at g.trees id)
  cheaper-one a =
      let p = ap (total g.trees) a in
      let q = total-append g.trees (old ++ task.Close id ∷ []) (reverse (map task.Write ops)) in
      let r = total-append g.trees old (task.Close id ∷ []) in
      let s = total-operands g.trees ops in
      let t : cost (origin_at g.trees id) ≡ suc (suc (cost_all (origins_at g.trees ops))) = ap cost e in
      omega (arith, p, q, r, s, t)

  pub asked-cheaper : {E : Type 0} (r : Result (Unit {0}) E)
      → OnOk r (new ≡ (old ++ task.Close id ∷ []) ++ reverse (map task.Write ops))
      → OnOk r (total g.trees new < total g.trees old + cost (origin_at g.trees id))
  asked-cheaper (Ok u) a = cheaper-one a
  asked-cheaper (Err u) a = tt

-- ---- by key, or by its line

pub emit-begin : (g : Given) (x : Origin ℕ) (t : Text ℕ) → w.key_of same x t.stored ≡ None
    → begin g x t ≡ w.emit same (keep g) x t
emit-begin g (o.Number k) t e = rw e refl
emit-begin g (o.Named n) t e = rw e refl
emit-begin g (o.Make c os) t e = rw e refl
emit-begin g (o.Define c os) t e = rw e refl
emit-begin g (o.Outcome j d) t e = rw e refl

pub emit-recall : (g : Given) (x : Origin ℕ) (t : Text ℕ) (k : ℕ) → w.key_of same x t.stored ≡ Some k
    → w.put same (w.Order words.Ref) (w.put same (w.Numeral (pos k)) t) ≡ w.emit same (keep g) x t
emit-recall g (o.Number j) t k e = rw e refl
emit-recall g (o.Named n) t k e = rw e refl
emit-recall g (o.Make c os) t k e = rw e refl
emit-recall g (o.Define c os) t k e = rw e refl
emit-recall g (o.Outcome j d) t k e = rw e refl

module _ (g : Given) (keys : List (Option ℕ)) (stored : List ℕ) (has : HasKeys g.trees keys stored) (id : ℕ)
    (inside : id < length g.trees) (x : Option ℕ) (at : x ≡ slice_index_or keys id x) where
  key-is : (max : ℕ) (old : Writer) (t : Text ℕ) → old.stored.items ≡ stored → Shows g max old t
      → w.key_of same (origin_at g.trees id) t.stored ≡ x
  key-is max old t s h =
      let a : slice_get keys id ≡ Some x = get-of keys id x (omega (arith, has.long)) at in
      let b : Some (w.key_of same (origin_at g.trees id) (map (origin_at g.trees) stored)) ≡ Some x =
      sym (has.each id inside) ∙ a in
      let c : w.key_of same (origin_at g.trees id) (map (origin_at g.trees) stored) ≡ x = cc in
      ap (w.key_of same (origin_at g.trees id)) (sym h.stored ∙ ap (map (origin_at g.trees)) s) ∙ c

  pub opened-some : {E : Type 0} (r : Result (Unit {0}) E) (old new : Writer) (ws : List Task) (k : ℕ)
      → old.stored.items ≡ stored → x ≡ Some k
      → OnOk r (Moves g old new (λ t. w.put same (w.Order words.Ref) (w.put same (w.Numeral (pos k)) t)))
      → OnOk r (Replaces g old new ws ws (w.emit same (keep g) (origin_at g.trees id)))
  opened-some (Ok u) old new ws k s e h =
      λ max t p. (
        w.put same (w.Order words.Ref) (w.put same (w.Numeral (pos k)) t),
        h max t p,
        ap (rest g ws)
            (emit-recall g (origin_at g.trees id) t k (key-is max old t s p ∙ e)),
      )
  opened-some (Err u) old new ws k s e h = tt

  pub opened-none : {E : Type 0} (r : Result (Unit {0}) E) (old new : Writer) (before after : List Task)
      → old.stored.items ≡ stored → x ≡ None
      → OnOk r (Replaces g old new before after (begin g (origin_at g.trees id)))
      → OnOk r (Replaces g old new before after (w.emit same (keep g) (origin_at g.trees id)))
  opened-none (Ok u) old new before after s e h = λ max t p. let a = h max t p in
      (a.0, a.1, a.2 ∙ ap (rest g before) (emit-begin g (origin_at g.trees id) t (key-is max old t s p ∙ e)))
  opened-none (Err u) old new before after s e h = tt

-- numbers below, element by element
pub each-below : {X : Type 0} (P : X → Type 0) (xs : List X) → All P xs → AllByRecursion P xs
each-below P [] h = tt
each-below P (x ∷ xs) h = (h 0 x (omega arith), each-below P xs (λ k d l. h (suc k) d (omega arith)))

pub operands-inside : (n k : ℕ) (r s : Step) → IsBelow k r → r ≡ s → k < n
    → AllByRecursion (λ i. i < n) (operand_numbers s)
operands-inside n k r s below e low =
    each-below (λ i. i < n) (operand_numbers s) (all-below s (subst (IsBelow k) e below))
  where
    more : (is : List ℕ) → All (λ i. i < k) is → All (λ i. i < n) is
    more is h j d l = let g : slice_index_or is j d < k = h j d l in omega arith

    all-below : (s : Step) → IsBelow k s → All (λ i. i < n) (operand_numbers s)
    all-below (step.Number z) h = λ j d l. absurd (omega arith)
    all-below (step.Name z) h = λ j d l. absurd (omega arith)
    all-below (step.Make c ops) h = more ops h
    all-below (step.Define c ops syms) h = more ops.value.items h.0
    all-below (step.Outcome j d) h = λ i e l. absurd (omega arith)

module _ (n : ℕ) where
  pub inside-append : (xs ys : List Task) → ArePlacesBelow n xs → ArePlacesBelow n ys → ArePlacesBelow n (xs ++ ys)
  inside-append [] ys h k = k
  inside-append (x ∷ xs) ys h k = (h.0, inside-append xs ys h.1 k)

  inside-operands : (is : List ℕ) → AllByRecursion (λ i. i < n) is → ArePlacesBelow n (reverse (map task.Write is))
  inside-operands [] h = tt
  inside-operands (i ∷ is) h = subst (ArePlacesBelow n) (sym (reverse-append (task.Write i ∷ []) (map task.Write is)))
      (inside-append (reverse (map task.Write is)) (task.Write i ∷ []) (inside-operands is h.1) (h.0, tt))

  pub asked-inside : {E : Type 0} (r : Result (Unit {0}) E) (old new : List Task) (id : ℕ) (is : List ℕ)
      → ArePlacesBelow n old → id < n → AllByRecursion (λ i. i < n) is
      → OnOk r (new ≡ (old ++ task.Close id ∷ []) ++ reverse (map task.Write is)) → OnOk r (ArePlacesBelow n new)
  asked-inside (Err e) old new id is h k a p = tt
  asked-inside (Ok u) old new id is h k a p =
      subst (ArePlacesBelow n) (sym p) (inside-append (old ++ task.Close id ∷ []) (reverse (map task.Write is))
      (inside-append old (task.Close id ∷ []) h (k, tt)) (inside-operands is a))

-- ---- what has so many uses

pub get-here : (xs : List ℕ) (i d : ℕ) → i < length xs → slice_get xs i ≡ Some (slice_index_or xs i d)
get-here [] i d h = absurd (omega arith)
get-here (x ∷ xs) zero d h = refl
get-here (x ∷ xs) (suc i) d h = get-here xs i d (omega arith)

module _ (ts : List (Origin ℕ)) (table : IsStepTable ts) where
  module _ (cs : List ℕ) (counted : length cs ≡ length ts) (id : ℕ) (inside : id < length ts) (place : ℕ)
      (here : place ≡ id) where
    at-id : slice_index_or cs place 0 ≡ slice_index_or cs id 0
    at-id = ap (λ z. slice_index_or cs z 0) here

    pub count-here : count_of ts cs (origin_at ts id) ≡ slice_index_or cs id 0
    count-here = count-at ts cs id (slice_index_or cs id 0) (once-at ts table) inside
        (get-here cs id 0 (omega (arith, counted)))

    pub stored-one : (least : ℕ) → least ≤ slice_index_or cs place 0 → (ns : List Name) (old new : Writer)
        → Moves (given ns ts cs) old new (w.store same (origin_at ts id))
        → Moves (given ns ts cs) old new
        (λ t. cond (nat_le least (count_of ts cs (origin_at ts id))) (w.store same (origin_at ts id) t) t)
    stored-one least h ns old new m =
        λ max t s. subst (λ b. Shows (given ns ts cs) max new (cond b (w.store same (origin_at ts id) t) t))
        (sym (ap (nat_le least) count-here ∙ le-leb least (slice_index_or cs id 0) (subst (λ z. least ≤ z) at-id h)))
        (m max t s)

    pub stored-none : (least : ℕ) → slice_index_or cs place 0 < least → (ns : List Name) (old : Writer)
        → Moves (given ns ts cs) old old
        (λ t. cond (nat_le least (count_of ts cs (origin_at ts id))) (w.store same (origin_at ts id) t) t)
    stored-none least h ns old =
        λ max t s. subst (λ b. Shows (given ns ts cs) max old (cond b (w.store same (origin_at ts id) t) t))
        (sym (ap (nat_le least) count-here
        ∙ lt-leb least (slice_index_or cs id 0) (subst (λ z. z < least) at-id h))) s

  -- ---- the theorem at a place of a definition
  module _ (cs : List ℕ) (x : Origin ℕ) where
    pub theorem-used : {E : Type 0} (r : Result (Unit {0}) E) (theorem : ℕ) → slice_get ts theorem ≡ Some x
        → (ns : List Name) (old new : Writer)
        → OnOk r (Moves (given ns ts cs) old new
        (λ t. cond (nat_le 1 (count_of ts cs (origin_at ts theorem))) (w.store same (origin_at ts theorem) t) t))
        → OnOk r (Moves (given ns ts cs) old new (λ t. cond (nat_le 1 (count_of ts cs x)) (w.store same x t) t))
    theorem-used r theorem e ns old new m =
        subst (λ x. OnOk r
        (Moves (given ns ts cs) old new (λ t. cond (nat_le 1 (count_of ts cs x)) (w.store same x t) t)))
        (origin-of-get ts theorem x e) m

    pub theorem-unused : ((i : ℕ) → slice_get ts i ≢ Some x) → (ns : List Name) (old : Writer)
        → Moves (given ns ts cs) old old (λ t. cond (nat_le 1 (count_of ts cs x)) (w.store same x t) t)
    theorem-unused none ns old =
        λ max t s. subst (λ k. Shows (given ns ts cs) max old (cond (nat_le 1 k) (w.store same x t) t))
        (sym (count-none ts cs x (λ i h e. none i (origin-here ts i h ∙ ap Some e)))) s

-- ---- definitions

pub pops-next : (g : Given) (k : ℕ) (u : Text ℕ) → 0 < k
    → w.pops same (keep g) (used g) (k - 1) (w.put same (w.Order words.Pop) u) ≡ w.pops same (keep g) (used g) k u
pops-next g zero u h = absurd (omega arith)
pops-next g (suc k) u h = let e : suc k - 1 ≡ k = omega arith in
    ap (λ z. w.pops same (keep g) (used g) z (w.put same (w.Order words.Pop) u)) e

pub outcomes-next : (g : Given) (d : Origin ℕ) (k : ℕ) (u : Text ℕ) → 0 < k
    → w.outcomes same (keep g) (used g) d (k - 1)
    (w.put same (w.Order words.Pop) (cond (used g (o.Outcome k d)) (w.store same (o.Outcome k d) u) u))
    ≡ w.outcomes same (keep g) (used g) d k u
outcomes-next g d zero u h = absurd (omega arith)
outcomes-next g d (suc k) u h = let e : suc k - 1 ≡ k = omega arith in
    ap (λ z. w.outcomes same (keep g) (used g) d z
    (w.put same (w.Order words.Pop) (cond (used g (o.Outcome (suc k) d)) (w.store same (o.Outcome (suc k) d) u) u))) e

define-text : (g : Given) (x : Origin ℕ) (c : Cmd) (os : Origins ℕ) (k n : ℕ) → x ≡ o.Define c os
    → k ≡ w.theorem_count c → n ≡ w.symbol_count c → (t : Text ℕ)
    → w.pops same (keep g) (used g) n (w.outcomes same (keep g) (used g) x k (w.make same x (w.Order c) t))
    ≡ close g x t
define-text g x c os k n e hk hn t =
    (λ i. w.pops same (keep g) (used g) (hn i)
    (w.outcomes same (keep g) (used g) (e i) (hk i) (w.make same (e i) (w.Order c) t)))
    ∙ sym (ap (λ z. close g z t) e)

pub defined : {E : Type 0} (r : Result (Unit {0}) E) (g : Given) (old mid later new : Writer) (x : Origin ℕ) (c : Cmd)
    (os : Origins ℕ) (k n : ℕ) → x ≡ o.Define c os → k ≡ w.theorem_count c → n ≡ w.symbol_count c
    → limit.limited mid.text ≡ limit.put (number_line g.names (w.Order c)) (limit.limited old.text)
    → mid.stored.items ≡ old.stored.items
    → Moves g mid later (w.outcomes same (keep g) (used g) x k)
    → OnOk r (Moves g later new (w.pops same (keep g) (used g) n)) → OnOk r (Moves g old new (close g x))
defined (Ok u) g old mid later new x c os k n e hk hn b s m p = λ max t h.
    subst (λ z. Shows g max new z) (define-text g x c os k n e hk hn t)
    (p max _ (m max _ (shows-make g old mid (w.Order c) b s max t h x)))
defined (Err u) g old mid later new x c os k n e hk hn b s m p = tt

pub definition-text : (g : Given) (id : ℕ) (c : Cmd) (ops : List ℕ)
    → origin_at g.trees id ≡ o.Define c (origins_at g.trees ops) → (work : List Task)
    → work ≡ ([] ++ task.Close id ∷ []) ++ reverse (map task.Write ops) → (t : Text ℕ)
    → rest g work t ≡ w.emit_definition same (keep g) (used g) (origin_at g.trees id) t
definition-text g id c ops e work a t =
    let all : Text ℕ = w.emit_all same (keep g) (origins_at g.trees ops) t in
    ap (λ l. rest g l t) a ∙ rest-asked g id [] ops t
    ∙ subst (λ z. close g z all ≡ w.emit_definition same (keep g) (used g) z t) (sym e) refl

pub nothing-moves : (g : Given) (old : Writer) (f : Text ℕ → Text ℕ) → ((t : Text ℕ) → t ≡ f t) → Moves g old old f
nothing-moves g old f e = λ max t s. subst (λ z. Shows g max old z) (e t) s

pub nothing : (g : Given) (old : Writer) (ws : List Task) (f : Text ℕ → Text ℕ) → ((t : Text ℕ) → t ≡ f t)
    → Replaces g old old ws ws f
nothing g old ws f e = λ max t h. (t, h, ap (rest g ws) (e t))

pub cheaper-none : (ts : List (Origin ℕ)) (ws : List Task) (x : Origin ℕ) → total ts ws < total ts ws + cost x
cheaper-none ts ws x = let h = cost-some x in omega arith

-- ---- names

pub injective-distinct : {X : Type 0} (xs : List X) → IsInjective xs → AreDistinct xs
injective-distinct [] h = tt
injective-distinct (x ∷ xs) h = (
  λ m. let r = IsMember-place x xs m in let e : 0 ≡ suc r.0 = h.same 0 (suc r.0) x refl r.1 in absurd (cc),
  injective-distinct xs
      (record { same = λ i j y p q. let e : suc i ≡ suc j = h.same (suc i) (suc j) y p q in omega arith }),
)

pub name-line : (ns : List Name) (i : ℕ) (n : Name) → IsInjective ns → slice_get ns i ≡ Some n
    → number_line ns (w.Spelled i) ≡ line_bytes (w.Spelled n)
name-line ns i n h e = ap (λ z. line_bytes (w.Spelled z)) (name_of-at ns i n (injective-distinct ns h) e)

-- a line behind a move
pub put-behind : {E : Type 0} (r : Result (Unit {0}) E) (g : Given) (old mid new : Writer) (l : Line ℕ)
    (f : Text ℕ → Text ℕ) → Moves g old mid f
    → OnOk r (limit.limited new.text ≡ limit.put (number_line g.names l) (limit.limited mid.text))
    → new.stored.items ≡ mid.stored.items
    → OnOk r (Moves g old new (λ t. w.put same l (f t)))
put-behind (Ok u) g old mid new l f m e k = λ max t s. shows-put g mid new l e k max (f t) (m max t s)
put-behind (Err u) g old mid new l f m e k = tt

-- ---- what has no end of its own

pub close-number : (g : Given) (x : Origin ℕ) (k : ℤ) → x ≡ o.Number k → (t : Text ℕ) → t ≡ close g x t
close-number g x k e t = subst (λ z. t ≡ close g z t) (sym e) refl

pub close-name : (g : Given) (x : Origin ℕ) (n : ℕ) → x ≡ o.Named n → (t : Text ℕ) → t ≡ close g x t
close-name g x n e t = subst (λ z. t ≡ close g z t) (sym e) refl

pub close-outcome : (g : Given) (x : Origin ℕ) (j : ℕ) (d : Origin ℕ) → x ≡ o.Outcome j d → (t : Text ℕ)
    → t ≡ close g x t
close-outcome g x j d e t = subst (λ z. t ≡ close g z t) (sym e) refl

pub define-number : (g : Given) (x : Origin ℕ) (k : ℤ) → x ≡ o.Number k → (t : Text ℕ)
    → t ≡ w.emit_definition same (keep g) (used g) x t
define-number g x k e t = subst (λ z. t ≡ w.emit_definition same (keep g) (used g) z t) (sym e) refl

pub define-name : (g : Given) (x : Origin ℕ) (n : ℕ) → x ≡ o.Named n → (t : Text ℕ)
    → t ≡ w.emit_definition same (keep g) (used g) x t
define-name g x n e t = subst (λ z. t ≡ w.emit_definition same (keep g) (used g) z t) (sym e) refl

pub define-make : (g : Given) (x : Origin ℕ) (c : Cmd) (os : Origins ℕ) → x ≡ o.Make c os → (t : Text ℕ)
    → t ≡ w.emit_definition same (keep g) (used g) x t
define-make g x c os e t = subst (λ z. t ≡ w.emit_definition same (keep g) (used g) z t) (sym e) refl

pub define-outcome : (g : Given) (x : Origin ℕ) (j : ℕ) (d : Origin ℕ) → x ≡ o.Outcome j d → (t : Text ℕ)
    → t ≡ w.emit_definition same (keep g) (used g) x t
define-outcome g x j d e t = subst (λ z. t ≡ w.emit_definition same (keep g) (used g) z t) (sym e) refl

-- the work of a definition
pub asked-work : (n : ℕ) (new : List Task) (id : ℕ) (is : List ℕ) → id < n → AllByRecursion (λ i. i < n) is
    → new ≡ ([] ++ task.Close id ∷ []) ++ reverse (map task.Write is) → ArePlacesBelow n new
asked-work n new id is k a p = subst (ArePlacesBelow n) (sym p)
    (inside-append n ([] ++ task.Close id ∷ []) (reverse (map task.Write is)) (k, tt) (inside-operands n is a))
