-- One step of the walk over packages.
use Rattle.std.specs.Prelude.{Option, is_some, not, string_bytes}
use Rattle.std.specs.Borrow.{Bor}
use Rattle.std.specs.List.{filter}
use Rattle.std.specs.Option.{option_map}
use Rattle.std.specs.Str.{bytes_eq}
use Rattle.std.specs.Cmp.Lexicographic.{bytes_decides}
use Rattle.std.proofs.Common.{◌≡◌, ◌≢◌, ◌<◌, ◌≤◌, ◌+◌, ℕ, zero, suc, Bool, true, false}
use Rattle.std.proofs.Common.{cond, List, [], ◌∷◌, ◌++◌, map, length, reverse, Result, Ok}
use Rattle.std.proofs.Common.{Err, Some, None, inl, inr, refl, sym, ap, subst, ◌∙◌, arith}
use Rattle.std.specs.Prelude.{◌||◌}
use Rattle.std.proofs.lemmas.Bool.{cases_Bool}
use Rattle.std.proofs.lemmas.List.{reverse-append, length-append}
use Rattle.std.proofs.lemmas.List.Folds.{list_any-append}
use Rattle.ot_logic.specs.Lists.{IsMember}
use Rattle.ot_walk.specs.Walk.{Edge, Walk, TooDeep, walk_from}
use Rattle.ot_io.specs.Folder.{Folder}
use Rattle.ot_repo.specs.Required.{Refusal, Theory, TheoryTooLarge, IndexTooLarge, BadIndex}
use Rattle.ot_repo.specs.Required.{NotInstalled, RequiresCycle, Missing, edges_of, walked}
use Rattle.ot_repo.specs.Answers.{Refuses}
use Rattle.ot_repo.specs.declared.fault.RepoFault.{RepoFault}
use Rattle.ot_repo.specs.declared.fault.RepoFault.TheVariants as faults
use Rattle.ot_repo.specs.Reading.{edge_at, edges_left, AreListed, arrived, next_at}
use Rattle.ot_repo.specs.declared.requirements.File.{File}
use Rattle.ot_repo.specs.declared.requirements.Requirement.{Requirement}
use Rattle.ot_repo.specs.declared.walk.Waiting.{Waiting}
use Rattle.ot_repo.specs.declared.walk.Mark.{Mark}
use Rattle.ot_repo.specs.declared.walk.Mark.TheVariants.{Open, Done}
use Rattle.ot_walk.proofs.Members.{member_end}
use Rattle.ot_walk.proofs.Ending.{ends_always}
use Rattle.ot_repo.proofs.Requiring.{stays}
use Rattle.ot_repo.proofs.Tags.{listed_reversed}
use Rattle.ot_walk.proofs.Rest.{path_of, rest_of, rest_nowhere, rest_known}
use Rattle.ot_walk.proofs.Rest.{rest_back, rest_zero, rest_stopped, rest_new}
use Rattle.ot_repo.proofs.SoFar.{level_of, levels_of, is_among, mark_of, IsMarked, IsLevel}
use Rattle.ot_repo.proofs.SoFar.{SoFar, Rests, is_new, new_count, stack_work, work}
use Rattle.ot_logic.proofs.Members.{IsMember-left}
use Rattle.ot_logic.proofs.Results.{some_or-ok}

-- ---- marks
same_name : (a b : List ℕ) → bytes_eq a b ≡ true → a ≡ b
same_name a b e = (bytes_decides a b).0 e

pub unmarked : (done path : Bool) → mark_of done path ≡ None → (done ≡ false) × (path ≡ false)
unmarked true path e = cc
unmarked false true e = cc
unmarked false false e = (refl, refl)

pub marked_open : (done path : Bool) → mark_of done path ≡ Some Open → (done ≡ false) × (path ≡ true)
marked_open true path e = absurd (apart (same_Mark e)) where
  same_Mark : ◌≡◌ {A = Option Mark} (Some Done) (Some Open) → ◌≡◌ {A = Mark} Done Open
  same_Mark e = cc

  apart : ◌≡◌ {A = Mark} Done Open → ⊥
  apart e = cc
marked_open false true e = (refl, refl)
marked_open false false e = cc

pub marked_done : (done path : Bool) → mark_of done path ≡ Some Done → done ≡ true
marked_done true path e = refl
marked_done false true e = cc
marked_done false false e = cc

module _ (old new : List ℕ → Option Mark) (path done : List (List ℕ)) (k : List ℕ) where
  pub marks_opened : IsMarked old path done → old k ≡ None
      → ((q : List ℕ) → new q ≡ cond (bytes_eq k q) (Some Open) (old q)) → IsMarked new (k ∷ path) done
  marks_opened m none updates q =
      elim (cases_Bool (bytes_eq k q)) [
        | inl e ↦
            let fresh = (unmarked (is_among done k) (is_among path k) (sym (m k) ∙ none)).0 in
            let here : is_among done q ≡ false = subst (λ z. is_among done z ≡ false) (same_name k q e) fresh in
            updates q ∙ (rw (e, here) refl)
        | inr e ↦ updates q ∙ rw (e) (m q)
      ]

  pub marks_finished : IsMarked old (k ∷ path) done → ((q : List ℕ) → new q ≡ cond (bytes_eq k q) (Some Done) (old q))
      → IsMarked new path (done ++ k ∷ [])
  marks_finished m updates q =
      let more = list_any-append (λ x. bytes_eq x q) done (k ∷ []) in
      elim (cases_Bool (bytes_eq k q)) [
        | inl e ↦ updates q ∙ rw (more, e) (at_done (is_among done q) (is_among path q))
        | inr e ↦ updates q ∙ rw (more, e) (at_other (is_among done q) (is_among path q) (rw e at (m q)))
      ]
    where
      at_done : (d p : Bool) → Some Done ≡ mark_of (d || true) p
      at_done true p = refl
      at_done false p = refl

      at_other : (d p : Bool) → old q ≡ mark_of d p → old q ≡ mark_of (d || false) p
      at_other true p h = h
      at_other false p h = h

-- ---- the measure
length_le : (p r : List ℕ → Bool) → ((q : List ℕ) → r q ≡ true → p q ≡ true) → (xs : List (List ℕ))
    → length (filter r xs) ≤ length (filter p xs)
length_le p r less [] = omega arith
length_le p r less (x ∷ xs) =
    let rest = length_le p r less xs in
    elim (cases_Bool (r x)) [
      | inl e ↦ rw (e, less x e) (omega (arith, rest))
      | inr e ↦ elim (cases_Bool (p x))
          [ inl f ↦ rw (e, f) (omega (arith, rest)) | inr f ↦ rw (e, f) (omega (arith, rest)) ]
    ]

length_lt : (p r : List ℕ → Bool) → ((q : List ℕ) → r q ≡ true → p q ≡ true) → (k : List ℕ) → p k ≡ true → r k ≡ false
    → (xs : List (List ℕ)) → IsMember k xs → length (filter r xs) + 1 ≤ length (filter p xs)
length_lt p r less k now then [] m = absurd m
length_lt p r less k now then (x ∷ xs) (inl e) =
    let a : p x ≡ true = subst (λ z. p z ≡ true) (sym e) now in
    let b : r x ≡ false = subst (λ z. r z ≡ false) (sym e) then in
    let rest = length_le p r less xs in
    rw (a, b) (omega (arith, rest))
length_lt p r less k now then (x ∷ xs) (inr m) =
    let rest = length_lt p r less k now then xs m in
    elim (cases_Bool (r x)) [
      | inl e ↦ rw (e, less x e) (omega (arith, rest))
      | inr e ↦ elim (cases_Bool (p x))
          [ inl f ↦ rw (e, f) (omega (arith, rest)) | inr f ↦ rw (e, f) (omega (arith, rest)) ]
    ]

module _ (old new : List ℕ → Option Mark) (k : List ℕ) (mark : Mark)
    (updates : (q : List ℕ) → new q ≡ cond (bytes_eq k q) (Some mark) (old q)) where
  at_key : (q : List ℕ) → bytes_eq k q ≡ true → is_new new q ≡ false
  at_key q s = let e : new q ≡ Some mark = updates q ∙ rw s refl in ap (λ z. not (is_some z)) e

  at_other : (q : List ℕ) → bytes_eq k q ≡ false → is_new new q ≡ is_new old q
  at_other q s = let e : new q ≡ old q = updates q ∙ rw s refl in ap (λ z. not (is_some z)) e

  new_less : (q : List ℕ) → is_new new q ≡ true → is_new old q ≡ true
  new_less q e = elim (cases_Bool (bytes_eq k q)) [
    | inl s ↦ let no = at_key q s in absurd cc
    | inr s ↦ sym (at_other q s) ∙ e
  ]

  pub count_opened : (listed : List (List ℕ)) → old k ≡ None → IsMember k listed → new_count new listed + 1
      ≤ new_count old listed
  count_opened listed none m =
      length_lt (is_new old) (is_new new) new_less k (ap (λ z. not (is_some z)) none)
      (at_key k ((bytes_decides k k).1 refl)) listed m

  pub count_marked : (listed : List (List ℕ)) → new_count new listed ≤ new_count old listed
  count_marked listed = length_le (is_new old) (is_new new) new_less listed

-- ---- what is met
pub target_new : (marked : List ℕ → Option Mark) (back : Refusal) (t : Result (List ℕ) Refusal) (k : List ℕ)
    → next_at marked (record { target = t; back = back }) ≡ Ok (Some k) → (t ≡ Ok k) × (marked k ≡ None)
target_new marked back (Err fault) k e = absurd cc
target_new marked back (Ok j) k e = by_mark (marked j) refl e where
  by_mark : (o : Option Mark) → marked j ≡ o → arrived o j back ≡ Ok (Some k)
      → (◌≡◌ {A = Result (List ℕ) Refusal} (Ok j) (Ok k)) × (marked k ≡ None)
  by_mark None at e = let same : j ≡ k = cc in (ap Ok same, subst (λ z. marked z ≡ None) same at)
  by_mark (Some Open) at e = absurd cc
  by_mark (Some Done) at e = absurd cc

target_known : (marked : List ℕ → Option Mark) (back : Refusal) (t : Result (List ℕ) Refusal) → next_at marked
    (record { target = t; back = back }) ≡ Ok None → (k : List ℕ) × (t ≡ Ok k) × (marked k ≡ Some Done)
target_known marked back (Err fault) e = absurd cc
target_known marked back (Ok j) e = by_mark (marked j) refl e where
  by_mark : (o : Option Mark) → marked j ≡ o → arrived o j back ≡ Ok None
      → (k : List ℕ) × (◌≡◌ {A = Result (List ℕ) Refusal} (Ok j) (Ok k)) × (marked k ≡ Some Done)
  by_mark None at e = absurd cc
  by_mark (Some Open) at e = absurd cc
  by_mark (Some Done) at e = (j, refl, at)

-- why there is no next package
data Refused (marked : List ℕ → Option Mark) (e : Edge (List ℕ) Refusal) (fault : Refusal) : Type 0 where
  Nowhere : e.target ≡ Err fault → Refused marked e fault
  Back : (k : List ℕ) → e.target ≡ Ok k → marked k ≡ Some Open → e.back ≡ fault → Refused marked e fault

target_refused : (marked : List ℕ → Option Mark) (back : Refusal) (t : Result (List ℕ) Refusal) (fault : Refusal)
    → next_at marked (record { target = t; back = back }) ≡ Err fault
    → Refused marked (record { target = t; back = back }) fault
target_refused marked back (Err other) fault e = Nowhere (let same : other ≡ fault = cc in ap Err same)
target_refused marked back (Ok j) fault e = by_mark (marked j) refl e where
  by_mark : (o : Option Mark) → marked j ≡ o → arrived o j back ≡ Err fault
      → Refused marked (record { target = Ok j; back = back }) fault
  by_mark None at e = absurd cc
  by_mark (Some Open) at e = Back j refl at cc
  by_mark (Some Done) at e = absurd cc

-- ---- the rest of the walk
module _ (edges : List ℕ → Result (List (Edge (List ℕ) Refusal)) Refusal) (whole : Walk (List ℕ) Refusal)
    (marked : List ℕ → Option Mark) (ws : List Waiting) (file left : File) (done : List (List ℕ))
    (marks : IsMarked marked (path_of (levels_of ws)) done) where
  module _ (e : Edge (List ℕ) Refusal) (cut : edges_left file ≡ e ∷ edges_left left) where
    pub rests_known : Rests edges whole ws file done → next_at marked e ≡ Ok None → Rests edges whole ws left done
    rests_known r next =
        let (k, t, at) = target_known marked e.back e.target next in
        let known = marked_done (is_among done k) (is_among (path_of (levels_of ws)) k) (sym (marks k) ∙ at) in
        record {
          bound = r.bound;
          is = sym (rest_known bytes_eq edges r.bound (levels_of ws) e (edges_left left) done k t known)
              ∙ ap (λ es. rest_of bytes_eq edges r.bound (levels_of ws) es done) (sym cut) ∙ r.is;
        }

    pub rests_refused : Rests edges whole ws file done → (fault : Refusal) → next_at marked e ≡ Err fault
        → walked whole ≡ Err fault
    rests_refused r fault next =
        let whole_is : rest_of bytes_eq edges r.bound (levels_of ws) (e ∷ edges_left left) done ≡ whole =
        ap (λ es. rest_of bytes_eq edges r.bound (levels_of ws) es done) (sym cut) ∙ r.is in
        elim (target_refused marked e.back e.target fault next) [
          | Nowhere t ↦ ap walked
              (sym whole_is ∙ rest_nowhere bytes_eq edges r.bound (levels_of ws) e (edges_left left) done fault t)
          | Back k t at same ↦
              let on_path = marked_open (is_among done k) (is_among (path_of (levels_of ws)) k)
              (sym (marks k) ∙ at) in
              ap walked (sym whole_is ∙ rest_back bytes_eq edges r.bound (levels_of ws) e (edges_left left) done k t
              on_path.0 on_path.1) ∙ ap Err same
        ]

    module _ (deep : whole ≢ TooDeep) (k : List ℕ) (next : next_at marked e ≡ Ok (Some k)) where
      pub rests_stopped : Rests edges whole ws file done → (fault : Refusal) → edges k ≡ Err fault
          → walked whole ≡ Err fault
      rests_stopped r fault are =
          let (t, at) = target_new marked e.back e.target k next in
          let new = unmarked (is_among done k) (is_among (path_of (levels_of ws)) k) (sym (marks k) ∙ at) in
          by_bound r.bound (ap (λ es. rest_of bytes_eq edges r.bound (levels_of ws) es done) (sym cut) ∙ r.is) t new.0
          new.1
        where
          by_bound : (n : ℕ) → rest_of bytes_eq edges n (levels_of ws) (e ∷ edges_left left) done ≡ whole
              → e.target ≡ Ok k → is_among done k ≡ false → is_among (path_of (levels_of ws)) k ≡ false
              → walked whole ≡ Err fault
          by_bound zero is t fresh new =
              absurd (deep (sym is ∙ rest_zero bytes_eq edges (levels_of ws) e (edges_left left) done k t fresh new))
          by_bound (suc n) is t fresh new =
              ap walked (sym is ∙ rest_stopped bytes_eq edges (levels_of ws) e (edges_left left) done k t fresh new n
              fault are)

      pub rests_new : Rests edges whole ws file done → (w : Waiting) (above : File) → level_of w
          ≡ (k, edges_left left) → edges k ≡ Ok (edges_left above) → Rests edges whole (w ∷ ws) above done
      rests_new r w above level are =
          let (t, at) = target_new marked e.back e.target k next in
          let new = unmarked (is_among done k) (is_among (path_of (levels_of ws)) k) (sym (marks k) ∙ at) in
          by_bound r.bound (ap (λ es. rest_of bytes_eq edges r.bound (levels_of ws) es done) (sym cut) ∙ r.is) t new.0
          new.1
        where
          by_bound : (n : ℕ) → rest_of bytes_eq edges n (levels_of ws) (e ∷ edges_left left) done ≡ whole
              → e.target ≡ Ok k → is_among done k ≡ false → is_among (path_of (levels_of ws)) k ≡ false
              → Rests edges whole (w ∷ ws) above done
          by_bound zero is t fresh new =
              absurd (deep (sym is ∙ rest_zero bytes_eq edges (levels_of ws) e (edges_left left) done k t fresh new))
          by_bound (suc n) is t fresh new = record {
            bound = n;
            is = ap (λ l. rest_of bytes_eq edges n (l ∷ levels_of ws) (edges_left above) done) level
                ∙ sym (rest_new bytes_eq edges (levels_of ws) e (edges_left left) done k t fresh new n
                (edges_left above) are) ∙ is;
          }

module _ (edges : List ℕ → Result (List (Edge (List ℕ) Refusal)) Refusal) (whole : Walk (List ℕ) Refusal)
    (file : File) (done : List (List ℕ)) (none : edges_left file ≡ []) where
  pub rests_end : (w : Waiting) (ws : List Waiting) → Rests edges whole (w ∷ ws) file done
      → Rests edges whole ws w.file (done ++ w.full.now ∷ [])
  rests_end w ws r =
      record {
        bound = suc r.bound;
        is = ap (λ es. rest_of bytes_eq edges r.bound (levels_of (w ∷ ws)) es done)
            (sym none) ∙ r.is;
      }

  pub rests_done : (ws : List Waiting) → ws ≡ [] → Rests edges whole ws file done → walked whole ≡ Ok done
  rests_done ws last r =
      let is : rest_of bytes_eq edges r.bound [] [] done ≡ whole =
      subst (λ es. rest_of bytes_eq edges r.bound [] es done ≡ whole) none
      (subst (λ xs. rest_of bytes_eq edges r.bound (levels_of xs) (edges_left file) done ≡ whole) last r.is) in
      ap walked (sym is)

-- ---- what the code pops and pushes
pub edges_popped : (file left : File) (r : Requirement) → file.path ≡ left.path → file.left.items ≡ left.left.items
    ++ r ∷ [] → edges_left file ≡ edge_at (string_bytes left.path) r ∷ edges_left left
edges_popped file left r path items =
    ap (λ p. map (edge_at (string_bytes p)) (reverse file.left.items)) path
    ∙ ap (λ rs. map (edge_at (string_bytes left.path)) (reverse rs)) items
    ∙ ap (map (edge_at (string_bytes left.path))) (reverse-append left.left.items (r ∷ []))

pub empty : {X : Type 0} (xs : List X) → length xs ≡ 0 → xs ≡ []
empty [] e = refl
empty (x ∷ xs) e = absurd (omega (arith, e))

pub no_edges : (file : File) → length file.left.items ≡ 0 → edges_left file ≡ []
no_edges file e = ap (λ rs. map (edge_at (string_bytes file.path)) (reverse rs)) (empty file.left.items e)

pub pushed : {X : Type 0} (more xs : List X) (x : X) → more ≡ xs ++ x ∷ [] → reverse more ≡ x ∷ reverse xs
pushed more xs x e = ap reverse e ∙ reverse-append xs (x ∷ [])

-- a refusal of one answer is that of the other
pub carried : {A B : Type 0} (e : RepoFault) (r : Result A Refusal) (s : Result B Refusal)
    → ((fault : Refusal) → r ≡ Err fault → s ≡ Err fault) → Refuses e r → Refuses e s
carried (faults.Theory path line fault) r s more is = more (Theory (string_bytes path) line fault) is
carried (faults.TheoryTooLarge path) r s more is = more (TheoryTooLarge (string_bytes path)) is
carried (faults.IndexTooLarge path) r s more is = more (IndexTooLarge (string_bytes path)) is
carried (faults.BadIndex path line) r s more is = more (BadIndex (string_bytes path) line) is
carried (faults.NotInstalled path line) r s more is = more (NotInstalled (string_bytes path) line) is
carried (faults.RequiresCycle path line) r s more is = more (RequiresCycle (string_bytes path) line) is
carried (faults.NoFile path) r s more is = more (Missing (string_bytes path)) is
carried (faults.ReadFault path) r s more is = tt
carried (faults.Memory memory) r s more is = tt

-- ---- what holds of the code's state
pub start_so_far : (listed : List (List ℕ)) (marked : List ℕ → Option Mark) (first : File)
    → ((q : List ℕ) → marked q ≡ None) → AreListed listed first.left.items → SoFar listed marked [] first []
start_so_far listed marked first none are = record { marks = none; levels = λ w m. absurd m; left = are }

module _ (listed : List (List ℕ)) (file left : File) (r : Requirement)
    (items : file.left.items ≡ left.left.items ++ r ∷ []) where
  pub popped_listed : AreListed listed file.left.items → (full : Bor (List ℕ)) → r.full ≡ Some full
      → IsMember full.now listed
  popped_listed are full e = are r (subst (IsMember r) (sym items) (member_end left.left.items r)) full.now
      (ap (option_map (λ f. f.now)) e)

  pub popped_left : AreListed listed file.left.items → AreListed listed left.left.items
  popped_left are q m full e = are q (subst (IsMember q) (sym items) (IsMember-left q left.left.items (r ∷ []) m))
      full e

pub left_so_far : (listed : List (List ℕ)) (marked : List ℕ → Option Mark) (ws : List Waiting) (file left : File)
    (r : Requirement) (done : List (List ℕ)) → file.left.items ≡ left.left.items ++ r ∷ []
    → SoFar listed marked ws file done → SoFar listed marked ws left done
left_so_far listed marked ws file left r done items s =
    record { marks = s.marks; levels = s.levels; left = popped_left listed file left r items s.left }

pub next_unmarked : (marked : List ℕ → Option Mark) (e : Edge (List ℕ) Refusal) (k : List ℕ)
    → next_at marked e ≡ Ok (Some k) → marked k ≡ None
next_unmarked marked e k next = (target_new marked e.back e.target k next).1

module _ (listed : List (List ℕ)) (old new : List ℕ → Option Mark) (ws : List Waiting) (done : List (List ℕ))
    (w : Waiting) where
  pub opened : (file above : File) (r : Requirement) → file.left.items ≡ w.file.left.items ++ r ∷ []
      → r.full ≡ Some w.full → old w.full.now ≡ None
      → ((q : List ℕ) → new q ≡ cond (bytes_eq w.full.now q) (Some Open) (old q))
      → AreListed listed above.left.items → SoFar listed old ws file done → SoFar listed new (w ∷ ws) above done
  opened file above r items full none updates are s = record {
    marks = marks_opened old new (path_of (levels_of ws)) done w.full.now s.marks none updates;
    levels = λ v m. elim m [
      | inl e ↦
          subst (IsLevel listed) e
          (record {
            full = popped_listed listed file w.file r items s.left w.full full;
            left = popped_left listed file w.file r items s.left;
          })
      | inr h ↦ s.levels v h
    ];
    left = are;
  }

  pub finished : (file : File) → ((q : List ℕ) → new q ≡ cond (bytes_eq w.full.now q) (Some Done) (old q))
      → SoFar listed old (w ∷ ws) file done → SoFar listed new ws w.file (done ++ w.full.now ∷ [])
  finished file updates s = record {
    marks = marks_finished old new (path_of (levels_of ws)) done w.full.now s.marks updates;
    levels = λ v m. s.levels v (inr m);
    left = (s.levels w (inl refl)).left;
  }

  pub smaller_opened : (file above : File) (r : Requirement) → file.left.items ≡ w.file.left.items ++ r ∷ []
      → r.full ≡ Some w.full → old w.full.now ≡ None
      → ((q : List ℕ) → new q ≡ cond (bytes_eq w.full.now q) (Some Open) (old q))
      → SoFar listed old ws file done → length above.left.items < 18446744073709551616
      → work listed new (w ∷ ws) above < work listed old ws file
  smaller_opened file above r items full none updates s small =
      let fewer = count_opened old new w.full.now Open updates listed none
      (popped_listed listed file w.file r items s.left w.full full) in
      let one : length file.left.items ≡ length w.file.left.items + 1 = ap length items
      ∙ length-append w.file.left.items (r ∷ []) in
      omega (arith, fewer, one, small)

  pub smaller_finished : (file : File) (stack : List Waiting) → stack ≡ w ∷ ws
      → ((q : List ℕ) → new q ≡ cond (bytes_eq w.full.now q) (Some Done) (old q)) → work listed new ws w.file
      < work listed old stack file
  smaller_finished file stack is updates =
      let fewer = count_marked old new w.full.now Done updates listed in
      let more : stack_work stack ≡ length w.file.left.items + 1 + stack_work ws = ap stack_work is in
      omega (arith, fewer, more)

-- ---- the bound is enough
edge_listed : (listed : List (List ℕ)) (path : List ℕ) (rs : List Requirement) → AreListed listed rs
    → (e : Edge (List ℕ) Refusal) (k : List ℕ) → IsMember e (map (edge_at path) rs) → e.target ≡ Ok k
    → IsMember k listed
edge_listed listed path [] are e k m t = absurd m
edge_listed listed path (r ∷ rs) are e k (inl q) t =
    are r (inl refl) k
    (some_or-ok (NotInstalled path r.line) (option_map (λ f. f.now) r.full) k (ap (λ z. z.target) q ∙ t))
edge_listed listed path (r ∷ rs) are e k (inr m) t = edge_listed listed path rs (λ q h. are q (inr h)) e k m t

pub walk_ends : (folder : Folder) (max : ℕ) (packages : List ℕ) (listed : List (List ℕ)) (first : File)
    → AreListed listed first.left.items
    → walk_from bytes_eq (edges_of folder max packages listed) (length listed) (edges_left first) ≢ TooDeep
walk_ends folder max packages listed first are =
    ends_always bytes_eq bytes_decides (edges_of folder max packages listed) listed (edges_left first) (length listed)
    (record {
      first = edge_listed listed (string_bytes first.path) (reverse first.left.items)
          (listed_reversed listed first.left.items are);
      later = (stays folder max packages [] listed []).later;
    }) (omega arith)
