-- One step of the walk, over plain lists.
use Rattle.std.proofs.Common.{◌≡◌, ◌≢◌, ◌<◌, ◌+◌, ◌-◌, ℕ, zero, suc, List, [], ◌∷◌, ◌++◌, length, drop, reverse}
use Rattle.std.proofs.Common.{get_or, Bool, true, false, refl, sym, ap, ◌∙◌, arith, inl, inr, Some, None, add-one}
use Rattle.std.specs.Prelude.{slice_get, if◌then◌else◌, ◌==◌, ◌||◌}
use Rattle.std.proofs.Math.ListN.{set, replicate}
use Rattle.std.proofs.Math.Seq.{drop-cons}
use Rattle.std.proofs.lemmas.Bool.Decides.{eqb_tells}
use Rattle.std.proofs.lemmas.List.{reverse-append, get_or-set_same, get_or-set_other, get_or-replicate, length-set}
use Rattle.std.proofs.lemmas.Option.{slice_get_within, slice_get_read, get_or_from_slice_get}
use Rattle.ot_walk.specs.Walk.{Walk, Walked, Stops, TooDeep, ◌>>=◌}
use Rattle.ot_walk.proofs.Rest.{bind_walked}
use Rattle.ot_blocks.specs.Order.{order_of, imports_at}
use Rattle.ot_blocks.specs.Ordering.{NamesBlocks}
use Rattle.ot_blocks.proofs.SoFar.{is_in, walk_imports, walk_block, blocks_of, rest_of, mark_of, new_count, new_work, path_work, Marked, SoFar}
use Rattle.ot_blocks.specs.declared.walk.Import.{Import}
use Rattle.ot_blocks.specs.declared.walk.Frame.{Frame}
use Rattle.ot_blocks.specs.declared.walk.Mark.{Mark}
use Rattle.ot_blocks.specs.declared.walk.Mark.TheVariants.{New, Open, Done}
use Rattle.ot_logic.proofs.Members.{IsMember-at}

-- what a mark says
pub is_done : (x y : Bool) → (if x then Done else (if y then Open else New)) ≡ Done → x ≡ true
is_done true y e = refl
is_done false true e = cc
is_done false false e = cc

pub is_open : (x y : Bool) → (if x then Done else (if y then Open else New)) ≡ Open → (x ≡ false) × (y ≡ true)
is_open true y e = cc
is_open false true e = (refl, refl)
is_open false false e = cc

pub is_new : (x y : Bool) → (if x then Done else (if y then Open else New)) ≡ New → (x ≡ false) × (y ≡ false)
is_new true y e = cc
is_new false true e = cc
is_new false false e = (refl, refl)

pub drop_at : {X : Type 0} (xs : List X) (k : ℕ) (x : X) → slice_get xs k ≡ Some x → drop k xs ≡ x ∷ drop (k + 1) xs
drop_at xs k x e =
    drop-cons xs k x (slice_get_within xs k x e) ∙ ap (λ z. z ∷ drop (suc k) xs) (get_or_from_slice_get xs k x x e)
    ∙ ap (λ n. x ∷ drop n xs) (sym (add-one k))

pub bind_assoc : (o : Walk ℕ ℕ) (f g : List ℕ → Walk ℕ ℕ) → (o >>= f) >>= g ≡ o >>= (λ bs. f bs >>= g)
bind_assoc (Walked bs) f g = refl
bind_assoc (Stops n) f g = refl
bind_assoc TooDeep f g = refl

-- blocks that are new
pub new_count_open : (ms : List Mark) (b : ℕ) → b < length ms → get_or ms b New ≡ New
    → suc (new_count (set ms b Open)) ≡ new_count ms
new_count_open [] b lt e = absurd (omega (arith, lt))
new_count_open (New ∷ ms) zero lt e = refl
new_count_open (Open ∷ ms) zero lt e = cc
new_count_open (Done ∷ ms) zero lt e = cc
new_count_open (New ∷ ms) (suc b) lt e = ap suc (new_count_open ms b (omega (arith, lt)) e)
new_count_open (Open ∷ ms) (suc b) lt e = new_count_open ms b (omega (arith, lt)) e
new_count_open (Done ∷ ms) (suc b) lt e = new_count_open ms b (omega (arith, lt)) e

pub new_count_done : (ms : List Mark) (b : ℕ) → get_or ms b New ≢ New → new_count (set ms b Done) ≡ new_count ms
new_count_done [] b e = refl
new_count_done (New ∷ ms) zero e = absurd (e refl)
new_count_done (Open ∷ ms) zero e = refl
new_count_done (Done ∷ ms) zero e = refl
new_count_done (New ∷ ms) (suc b) e = ap suc (new_count_done ms b e)
new_count_done (Open ∷ ms) (suc b) e = new_count_done ms b e
new_count_done (Done ∷ ms) (suc b) e = new_count_done ms b e

pub new_count_all : (n : ℕ) → new_count (replicate n New) ≡ n
new_count_all zero = refl
new_count_all (suc n) = ap suc (new_count_all n)

pub new_work_open : (g : List (List Import)) (ms : List Mark) (b : ℕ) → length ms ≡ length g → b < length ms
    → get_or ms b New ≡ New
    → suc (length (imports_at g b)) + new_work g (set ms b Open) ≡ new_work g ms
new_work_open [] ms b s lt e = absurd (omega (arith, s, lt))
new_work_open (is ∷ g) [] b s lt e = absurd (omega (arith, lt))
new_work_open (is ∷ g) (New ∷ ms) zero s lt e = refl
new_work_open (is ∷ g) (Open ∷ ms) zero s lt e = cc
new_work_open (is ∷ g) (Done ∷ ms) zero s lt e = cc
new_work_open (is ∷ g) (New ∷ ms) (suc b) s lt e =
    omega (arith, new_work_open g ms b (omega (arith, s)) (omega (arith, lt)) e)
new_work_open (is ∷ g) (Open ∷ ms) (suc b) s lt e = new_work_open g ms b (omega (arith, s)) (omega (arith, lt)) e
new_work_open (is ∷ g) (Done ∷ ms) (suc b) s lt e = new_work_open g ms b (omega (arith, s)) (omega (arith, lt)) e

pub new_work_done : (g : List (List Import)) (ms : List Mark) (b : ℕ) → get_or ms b New ≢ New
    → new_work g (set ms b Done) ≡ new_work g ms
new_work_done [] ms b e = refl
new_work_done (is ∷ g) [] b e = refl
new_work_done (is ∷ g) (New ∷ ms) zero e = absurd (e refl)
new_work_done (is ∷ g) (Open ∷ ms) zero e = refl
new_work_done (is ∷ g) (Done ∷ ms) zero e = refl
new_work_done (is ∷ g) (New ∷ ms) (suc b) e = ap (λ z. suc (length is) + z) (new_work_done g ms b e)
new_work_done (is ∷ g) (Open ∷ ms) (suc b) e = new_work_done g ms b e
new_work_done (is ∷ g) (Done ∷ ms) (suc b) e = new_work_done g ms b e

-- a mark is set where the path or the blocks that are done change
pub marked_set : (n : ℕ) (ms : List Mark) (path done path' done' : List ℕ) (b : ℕ) (m : Mark) → Marked n ms path done
    → b < n
    → m ≡ mark_of path' done' b → ((q : ℕ) → q ≢ b → mark_of path done q ≡ mark_of path' done' q)
    → Marked n (set ms b m) path' done'
marked_set n ms path done path' done' b m h lt here others = record {
  size = length-set ms b m ∙ h.size;
  each = λ q q_in. elim (eqb_tells q b) [
    | inl e ↦ ap (λ z. get_or (set ms b m) z New) e.1 ∙ get_or-set_same ms b m New (omega (arith, lt, h.size)) ∙ here
        ∙ ap (mark_of path' done') (sym e.1)
    | inr e ↦ get_or-set_other ms b q m New e.1 ∙ h.each q q_in ∙ others q e.1
  ];
}

-- membership
pub eqb_same : (b : ℕ) → (b == b) ≡ true
eqb_same b = elim (eqb_tells b b) [ inl e ↦ e.0 | inr e ↦ absurd (e.1 refl) ]

pub eqb_other : (b q : ℕ) → q ≢ b → (b == q) ≡ false
eqb_other b q h = elim (eqb_tells b q) [ inl e ↦ absurd (h (sym e.1)) | inr e ↦ e.0 ]

pub in_first : (b : ℕ) (bs : List ℕ) → is_in (b ∷ bs) b ≡ true
in_first b bs = rw (eqb_same b) refl

pub in_other : (b : ℕ) (bs : List ℕ) (q : ℕ) → q ≢ b → is_in (b ∷ bs) q ≡ is_in bs q
in_other b bs q h = rw (eqb_other b q h) refl

pub in_last : (bs : List ℕ) (b : ℕ) → is_in (bs ++ b ∷ []) b ≡ true
in_last [] b = in_first b []
in_last (x ∷ xs) b = elim (eqb_tells x b) [ inl e ↦ rw e.0 refl | inr e ↦ rw e.0 (in_last xs b) ]

pub in_before : (bs : List ℕ) (b q : ℕ) → q ≢ b → is_in (bs ++ b ∷ []) q ≡ is_in bs q
in_before [] b q h = in_other b [] q h
in_before (x ∷ xs) b q h = ap (λ z. (x == q) || z) (in_before xs b q h)

pub mark_opened : (path done : List ℕ) (b q : ℕ) → q ≢ b → mark_of path done q ≡ mark_of (b ∷ path) done q
mark_opened path done b q h = ap (λ z. if is_in done q then Done else (if z then Open else New))
    (sym (in_other b path q h))

pub mark_here : (path done : List ℕ) (b : ℕ) → is_in done b ≡ false → Open ≡ mark_of (b ∷ path) done b
mark_here path done b h = rw (h, in_first b path) refl

pub mark_not_new : (path done : List ℕ) (b : ℕ) → mark_of (b ∷ path) done b ≢ New
mark_not_new path done b h = let e = is_new (is_in done b) (is_in (b ∷ path) b) h in
    let f : true ≡ false = sym (in_first b path) ∙ e.1 in cc

pub mark_finished : (path done : List ℕ) (b q : ℕ) → q ≢ b → mark_of (b ∷ path) done q
    ≡ mark_of path (done ++ b ∷ []) q
mark_finished path done b q h =
    ap (λ z. if is_in done q then Done else (if z then Open else New)) (in_other b path q h)
    ∙ ap (λ z. if z then Done else (if is_in path q then Open else New)) (sym (in_before done b q h))

pub mark_done : (path done : List ℕ) (b : ℕ) → Done ≡ mark_of path (done ++ b ∷ []) b
mark_done path done b = rw (in_last done b) refl

-- one import
pub walk_known : (g : List (List Import)) (v : List ℕ → ℕ → Walk ℕ ℕ) (p : List ℕ) (xs : List Import) (k : ℕ) (i : Import) (done : List ℕ)
    → slice_get xs k ≡ Some i → is_in done i.block ≡ true → walk_imports g v p (drop k xs) done
    ≡ walk_imports g v p (drop (k + 1) xs) done
walk_known g v p xs k i done e h = rw (drop_at xs k i e) (rw h refl)

pub walk_back : (g : List (List Import)) (v : List ℕ → ℕ → Walk ℕ ℕ) (p : List ℕ) (xs : List Import) (k : ℕ) (i : Import) (done : List ℕ)
    → slice_get xs k ≡ Some i → is_in done i.block ≡ false → is_in p i.block ≡ true
    → walk_imports g v p (drop k xs) done ≡ Stops i.line
walk_back g v p xs k i done e h h2 = rw (drop_at xs k i e) (rw (h, h2) refl)

pub walk_new : (g : List (List Import)) (v : List ℕ → ℕ → Walk ℕ ℕ) (p : List ℕ) (xs : List Import) (k : ℕ) (i : Import) (done : List ℕ)
    → slice_get xs k ≡ Some i → is_in done i.block ≡ false → is_in p i.block ≡ false
    → walk_imports g v p (drop k xs) done ≡ (v done i.block >>= walk_imports g v p (drop (k + 1) xs))
walk_new g v p xs k i done e h h2 = rw (drop_at xs k i e) (rw (h, h2) refl)

pub drop_past : {X : Type 0} (xs : List X) (k : ℕ) → slice_get xs k ≡ None → drop k xs ≡ []
drop_past [] zero e = refl
drop_past [] (suc k) e = refl
drop_past (x ∷ xs) zero e = cc
drop_past (x ∷ xs) (suc k) e = drop_past xs k e

-- ---- the steps

-- the start
pub start : (g : List (List Import)) (ms : List Mark) (main : ℕ) → main < length g → ms ≡ replicate (length g) New
    → SoFar g (order_of g main) (set ms main Open) (record { block = main; next = 0 } ∷ []) []
start g ms main lt e =
    let size : length ms ≡ length g = ap length e ∙ length_new (length g) in
    let each : (b : ℕ) → b < length g → get_or ms b New ≡ New = λ b h. ap (λ z. get_or z b New) e
    ∙ get_or-replicate (length g) b New New h in
    let count : new_count ms ≡ length g = ap new_count e ∙ new_count_all (length g) in
    let one : suc (new_count (set ms main Open)) ≡ new_count ms =
    new_count_open ms main (omega (arith, size, lt)) (each main lt) in
    record {
      bound = length g - 1;
      enough = omega (arith, one, count);
      inside = (lt, tt);
      marked = marked_set (length g) ms [] [] (main ∷ []) [] main Open (record { size = size; each = each }) lt
          (mark_here [] [] main refl) (mark_opened [] [] main);
      whole_is = let one : suc (length g - 1) ≡ length g = omega (arith, lt) in
          sym (bind_walked (walk_block (suc (length g - 1)) g [] [] main))
          ∙ ap (λ n. walk_block n g [] [] main >>= λ order. Walked order) one;
    } where
      length_new : (n : ℕ) → length (replicate n New) ≡ n
      length_new zero = refl
      length_new (suc n) = ap suc (length_new n)

-- a step into a block that is new
rest_new : (g : List (List Import)) (b k n : ℕ) (fs : List Frame) (done : List ℕ) (i : Import)
    → slice_get (imports_at g b) k ≡ Some i → is_in done i.block ≡ false → is_in (b ∷ blocks_of fs) i.block ≡ false
    → rest_of g (record { block = b; next = k } ∷ fs) (suc n) done
    ≡ rest_of g (record { block = i.block; next = 0 } ∷ record { block = b; next = k + 1 } ∷ fs) n done
rest_new g b k n fs done i e h h2 =
    let path = b ∷ blocks_of fs in
    let below : List ℕ → Walk ℕ ℕ = λ more. rest_of g fs (suc (suc n)) (more ++ b ∷ []) in
    let others : List ℕ → Walk ℕ ℕ = walk_imports g (walk_block (suc n) g path) path (drop (k + 1) (imports_at g b)) in
    let own : Walk ℕ ℕ = walk_imports g (walk_block n g (i.block ∷ path)) (i.block ∷ path) (imports_at g i.block) done in
    ap (λ o. o >>= below) (walk_new g (walk_block (suc n) g path) path (imports_at g b) k i done e h h2)
    ∙ bind_assoc (walk_block (suc n) g path done i.block) others below
    ∙ bind_assoc own (λ more. Walked (more ++ i.block ∷ [])) (λ bs. others bs >>= below)

module _ {g : List (List Import)} {whole : Walk ℕ ℕ} {ms : List Mark} {b k : ℕ} {fs : List Frame} {done : List ℕ} where
  -- an import of a block that is done
  pub step_known : (i : Import) → SoFar g whole ms (record { block = b; next = k } ∷ fs) done
      → slice_get (imports_at g b) k ≡ Some i → get_or ms i.block New ≡ Done → i.block < length g
      → SoFar g whole ms (record { block = b; next = k + 1 } ∷ fs) done
  step_known i s e m lt =
      let known =
      is_done (is_in done i.block) (is_in (b ∷ blocks_of fs) i.block) (sym (s.marked.each i.block lt) ∙ m) in
      record {
        bound = s.bound;
        enough = s.enough;
        inside = s.inside;
        marked = s.marked;
        whole_is =
            ap (λ o. o >>= λ more. rest_of g fs (suc s.bound) (more ++ b ∷ []))
            (sym (walk_known g (walk_block s.bound g (b ∷ blocks_of fs)) (b ∷ blocks_of fs) (imports_at g b) k i
            done e known))
            ∙ s.whole_is;
      }

  -- an import that leads back
  pub step_back : (i : Import) → SoFar g whole ms (record { block = b; next = k } ∷ fs) done
      → slice_get (imports_at g b) k ≡ Some i → get_or ms i.block New ≡ Open → i.block < length g
      → whole ≡ Stops i.line
  step_back i s e m lt =
      let back =
      is_open (is_in done i.block) (is_in (b ∷ blocks_of fs) i.block) (sym (s.marked.each i.block lt) ∙ m) in
      sym s.whole_is ∙ ap (λ o. o >>= λ more. rest_of g fs (suc s.bound) (more ++ b ∷ []))
      (walk_back g (walk_block s.bound g (b ∷ blocks_of fs)) (b ∷ blocks_of fs) (imports_at g b) k i done e back.0
      back.1)

  -- an import of a block that is new
  pub step_new : (i : Import) → SoFar g whole ms (record { block = b; next = k } ∷ fs) done
      → slice_get (imports_at g b) k ≡ Some i → get_or ms i.block New ≡ New → i.block < length g
      → SoFar g whole (set ms i.block Open) (record { block = i.block; next = 0 } ∷ record { block = b; next = k + 1 }
      ∷ fs) done
  step_new i s e m lt =
      let new = is_new (is_in done i.block) (is_in (b ∷ blocks_of fs) i.block) (sym (s.marked.each i.block lt) ∙ m) in
      let one : suc (new_count (set ms i.block Open)) ≡ new_count ms =
      new_count_open ms i.block (omega (arith, s.marked.size, lt)) m in
      let bound_is : suc (s.bound - 1) ≡ s.bound = omega (arith, one, s.enough) in
      record {
        bound = s.bound - 1;
        enough = omega (arith, one, s.enough);
        inside = (lt, s.inside);
        marked = marked_set (length g) ms (b ∷ blocks_of fs) done (i.block ∷ b ∷ blocks_of fs) done i.block Open
            s.marked lt (mark_here (b ∷ blocks_of fs) done i.block new.0)
            (mark_opened (b ∷ blocks_of fs) done i.block);
        whole_is = sym (rest_new g b k (s.bound - 1) fs done i e new.0 new.1)
            ∙ ap (λ n. rest_of g (record { block = b; next = k } ∷ fs) n done) bound_is ∙ s.whole_is;
      }

  -- a block whose imports are all done
  step_end : (s : SoFar g whole ms (record { block = b; next = k } ∷ fs) done) → slice_get (imports_at g b) k ≡ None
      → rest_of g fs (suc s.bound) (done ++ b ∷ []) ≡ whole
  step_end s e =
      ap (λ xs. walk_imports g (walk_block s.bound g (b ∷ blocks_of fs)) (b ∷ blocks_of fs) xs done
      >>= λ more. rest_of g fs (suc s.bound) (more ++ b ∷ [])) (sym (drop_past (imports_at g b) k e))
      ∙ s.whole_is

  not_new : SoFar g whole ms (record { block = b; next = k } ∷ fs) done → get_or ms b New ≢ New
  not_new s h = mark_not_new (blocks_of fs) done b (sym (s.marked.each b s.inside.0) ∙ h)

  pub step_done : SoFar g whole ms (record { block = b; next = k } ∷ fs) done → slice_get (imports_at g b) k ≡ None
      → SoFar g whole (set ms b Done) fs (done ++ b ∷ [])
  step_done s e = record {
    bound = suc s.bound;
    enough = omega (arith, new_count_done ms b (not_new s), s.enough);
    inside = s.inside.1;
    marked = marked_set (length g) ms (b ∷ blocks_of fs) done (blocks_of fs) (done ++ b ∷ []) b Done s.marked
        s.inside.0 (mark_done (blocks_of fs) done b) (mark_finished (blocks_of fs) done b);
    whole_is = step_end s e;
  }

  -- the last block is done
  pub step_last : fs ≡ [] → SoFar g whole ms (record { block = b; next = k } ∷ fs) done → slice_get (imports_at g b) k
      ≡ None → whole ≡ Walked (done ++ b ∷ [])
  step_last none s e = sym (step_end s e) ∙ ap (λ fs. rest_of g fs (suc s.bound) (done ++ b ∷ [])) none

  -- ---- the measure

  pub smaller_import : (i : Import) → SoFar g whole ms (record { block = b; next = k } ∷ fs) done
      → slice_get (imports_at g b) k ≡ Some i
      → new_work g ms + path_work g (record { block = b; next = k + 1 } ∷ fs) < new_work g ms
      + path_work g (record { block = b; next = k } ∷ fs)
  smaller_import i s e = omega (arith, slice_get_within (imports_at g b) k i e)

  pub smaller_new : (i : Import) → SoFar g whole ms (record { block = b; next = k } ∷ fs) done
      → slice_get (imports_at g b) k ≡ Some i → get_or ms i.block New ≡ New → i.block < length g
      → new_work g (set ms i.block Open)
      + path_work g (record { block = i.block; next = 0 } ∷ record { block = b; next = k + 1 } ∷ fs)
      < new_work g ms + path_work g (record { block = b; next = k } ∷ fs)
  smaller_new i s e m lt =
      omega (
        arith,
        slice_get_within (imports_at g b) k i e,
        new_work_open g ms i.block s.marked.size
            (omega (arith, s.marked.size, lt)) m,
      )

  pub smaller_done : (fs' : List Frame) → fs ≡ fs' → SoFar g whole ms (record { block = b; next = k } ∷ fs) done
      → new_work g (set ms b Done) + path_work g fs' < new_work g ms
      + path_work g (record { block = b; next = k } ∷ fs)
  smaller_done fs' e s = omega (arith, new_work_done g ms b (not_new s), ap (path_work g) e)

  -- ---- what the code reads

  -- the mark of a block, as it was read
  pub mark_read : (i : ℕ) (m read : Mark) → SoFar g whole ms (record { block = b; next = k } ∷ fs) done → i < length g
      → read ≡ get_or ms i read → read ≡ m → get_or ms i New ≡ m
  mark_read i m read s lt e is = get_or_from_slice_get ms i read New
      (slice_get_read ms (length ms) i read refl (omega (arith, s.marked.size, lt)) e) ∙ is

-- an import that was read names a block of the file
pub inside_at : (g : List (List Import)) (b k : ℕ) (i : Import) → NamesBlocks g → slice_get (imports_at g b) k ≡ Some i
    → i.block < length g
inside_at g b k i inside e = inside b i (IsMember-at (imports_at g b) k i e)

-- the path is a `Vec` with its end last
pub pushed : (path path' : List Frame) (f : Frame) → path' ≡ path ++ f ∷ [] → reverse path' ≡ f ∷ reverse path
pushed path path' f e = ap reverse e ∙ reverse-append path (f ∷ [])

pub no_path : (path : List Frame) → length path ≡ 0 → reverse path ≡ []
no_path [] e = refl
no_path (f ∷ fs) e = absurd (omega (arith, e))
