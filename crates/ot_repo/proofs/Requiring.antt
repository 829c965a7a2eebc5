-- The packages that a theory file requires.
use Rattle.std.specs.Prelude.{◌≢◌, ◌⊎◌}
use Rattle.std.specs.List.{list_any}
use Rattle.std.specs.Str.{bytes_eq}
use Rattle.std.specs.Cmp.Lexicographic.{bytes_decides}
use Rattle.std.proofs.Common.{◌≡◌, ℕ, Bool, true, List, [], ◌∷◌, ◌++◌, map, Option, Some, None, Result}
use Rattle.std.proofs.Common.{Ok, Err, length, inl, inr, refl, sym, ap, subst, ◌∙◌, reverse, arith}
use Rattle.std.specs.Prelude.{find}
use Rattle.std.proofs.lemmas.Bool.{cases_Bool}
use Rattle.std.proofs.lemmas.List.{reverse-append, map-append}
use Rattle.std.proofs.lemmas.Option.{same_Some}
use Rattle.ot_io.specs.Folder.{Folder}
use Rattle.ot_logic.specs.Lists.{IsMember}
use Rattle.ot_logic.specs.Answers.{◌>>=◌, some_or}
use Rattle.ot_theory.specs.Theory.{TagText, TheoryText}
use Rattle.ot_blocks.specs.Paths.{name_part, package_path}
use Rattle.ot_walk.specs.Walk.{Edge, Walk, Walked, Stops, TooDeep, walk_from}
use Rattle.ot_walk.specs.Walks.{HasEdge, Reaches, Leads, LeadInto, HasStop, StaysIn}
use Rattle.ot_walk.specs.Walks as walks
use Rattle.ot_repo.specs.Required.{Refusal, NotInstalled, theory_at, requirements, index_path, index_at, picked}
use Rattle.ot_repo.specs.Required.{edge_of, edges_in, edges_of, walked, required_listed, required_over, required_by}
use Rattle.ot_repo.specs.Laws.{ArePicked, Requires, IsNeeded, ByTag, ByPackage, LeadsTo, Same, Along}
use Rattle.ot_repo.specs.Laws.{IsRequired, IsFile, First, OfPackage, IsRefused, BadFile, NoPackage}
use Rattle.ot_repo.specs.Laws.{Round, AreRequired, GivesRequired, GivesRefusal, RequiredEnds}
use Rattle.ot_walk.proofs.Walking.{gives_walk, gives_stop}
use Rattle.ot_walk.proofs.Turns.{gives_turns}
use Rattle.ot_walk.proofs.Ending.{ends_always}
use Rattle.ot_logic.proofs.Members.{IsMember-push}
use Rattle.ot_logic.proofs.Results.{bind-ok, same_Ok, some_or-ok}

-- ---- what is picked

find_member : {X : Type 0} (p : X → Bool) (xs : List X) (x : X) → find p xs ≡ Some x → IsMember x xs
find_member p [] x e = absurd cc
find_member p (y ∷ ys) x e = elim (cases_Bool (p y)) [
  | inl t ↦ let k : ◌≡◌ {A = Option _} (Some y) (Some x) = rw t at e in inl (same_Some y x k)
  | inr f ↦ let k : find p ys ≡ Some x = rw f at e in inr (find_member p ys x k)
]

pub member_reverse : {X : Type 0} (x : X) (xs : List X) → IsMember x (reverse xs) → IsMember x xs
member_reverse x [] m = m
member_reverse x (y ∷ ys) m =
    let k : IsMember x (reverse ys ++ y ∷ []) = subst (IsMember x) (reverse-append (y ∷ []) ys) m in
    elim (IsMember-push x (reverse ys) y k) [ inl h ↦ inr (member_reverse x ys h) | inr e ↦ inl e ]

pub picked_member : (listed : List (List ℕ)) (value full : List ℕ) → picked listed value ≡ Some full
    → IsMember full listed
picked_member listed value full e = elim (cases_Bool (list_any (bytes_eq value) listed)) [
  | inl t ↦
      let k : ◌≡◌ {A = Option (List ℕ)} (Some value) (Some full) = rw t at e in
      subst (λ z. IsMember z listed) (same_Some value full k) (here listed t)
  | inr f ↦
      let k : find (λ name. bytes_eq (name_part name) value) (reverse listed) ≡ Some full = rw f at e in
      member_reverse full listed (find_member (λ name. bytes_eq (name_part name) value) (reverse listed) full k)
]
  where
    here : (names : List (List ℕ)) → list_any (bytes_eq value) names ≡ true → IsMember value names
    here [] t = absurd cc
    here (n ∷ names) t = elim (cases_Bool (bytes_eq value n)) [
      | inl s ↦ inl (sym ((bytes_decides value n).0 s))
      | inr f ↦ let k : list_any (bytes_eq value) names ≡ true = rw f at t in inr (here names k)
    ]

-- ---- edges

edge_member : (listed : List (List ℕ)) (path : List ℕ) (tags : List TagText) (e : Edge (List ℕ) Refusal)
    (full : List ℕ) → IsMember e (map (edge_of listed path) tags) → e.target ≡ Ok full → IsMember full listed
edge_member listed path [] e full m t = absurd m
edge_member listed path (tag ∷ tags) e full (inl q) t =
    picked_member listed tag.value full
    (some_or-ok (NotInstalled path tag.line) (picked listed tag.value) full (ap (λ z. z.target) q ∙ t))
edge_member listed path (tag ∷ tags) e full (inr m) t = edge_member listed path tags e full m t

are_picked : (listed : List (List ℕ)) (path : List ℕ) (tags : List TagText) (order : List (List ℕ))
    (f : TagText → Edge (List ℕ) Refusal) → ((tag : TagText) → f tag ≡ edge_of listed path tag)
    → ((e : Edge (List ℕ) Refusal) → IsMember e (map f tags) → (full : List ℕ) × (e.target ≡ Ok full)
    × IsMember full order) → ArePicked listed tags order
are_picked listed path [] order f same into tag m = absurd m
are_picked listed path (t ∷ tags) order f same into tag (inl q) =
    let (full, target, here) = into (f t) (inl refl) in (
      full,
      some_or-ok (NotInstalled path tag.line) (picked listed tag.value) full
          (ap (λ z. some_or (NotInstalled path z.line) (picked listed z.value)) (sym q)
          ∙ ap (λ z. z.target) (sym (same t)) ∙ target),
      here,
    )
are_picked listed path (t ∷ tags) order f same into tag (inr m) =
    are_picked listed path tags order f same (λ e i. into e (inr i)) tag m

pub stays : (folder : Folder) (max : ℕ) (packages path : List ℕ) (listed : List (List ℕ)) (tags : List TagText)
    → StaysIn (edges_of folder max packages listed) (edges_in listed path tags) listed
stays folder max packages path listed tags = record {
  first = λ e k m target. edge_member listed path tags e k m target;
  later = λ e j k has target.
      let (u, read, are) = bind-ok (theory_at folder max (package_path packages j))
      (λ u. Ok (edges_in listed (package_path packages j) (requirements u))) has.all has.are in
      edge_member listed (package_path packages j) (requirements u) e k
      (subst (IsMember e) (sym (same_Ok (edges_in listed (package_path packages j) (requirements u)) has.all are))
      has.here) target;
}

pub required_ends : RequiredEnds
required_ends folder max packages path listed tags =
    ends_always bytes_eq bytes_decides (edges_of folder max packages listed) listed (edges_in listed path tags)
    (length listed) (stays folder max packages path listed tags) (omega arith)

-- ---- what is required

walked_ok : (w : Walk (List ℕ) Refusal) (order : List (List ℕ)) → w ≢ TooDeep → walked w ≡ Ok order → w ≡ Walked order
walked_ok (Walked ks) order ends e = ap Walked (same_Ok ks order e)
walked_ok (Stops refusal) order ends e = absurd cc
walked_ok TooDeep order ends e = absurd (ends refl)

-- ---- edges and tags

tag_of_edge : (listed : List (List ℕ)) (path : List ℕ) (tags : List TagText) (e : Edge (List ℕ) Refusal)
    → IsMember e (map (edge_of listed path) tags) → (tag : TagText) × IsMember tag tags
    × (edge_of listed path tag ≡ e)
tag_of_edge listed path [] e m = absurd m
tag_of_edge listed path (tag ∷ tags) e (inl q) = (tag, inl refl, q)
tag_of_edge listed path (tag ∷ tags) e (inr m) = let (found, here, is) = tag_of_edge listed path tags e m in
    (found, inr here, is)

some_err : (fault refusal : Refusal) (o : Option (List ℕ)) → some_or fault o ≡ Err refusal
    → (o ≡ None) × (fault ≡ refusal)
some_err fault refusal None e = (refl, cc)
some_err fault refusal (Some x) e = absurd cc

module _ (folder : Folder) (max : ℕ) (packages : List ℕ) (listed : List (List ℕ)) where
  -- an edge of a package is a tag of its file
  record EdgeTag (full : List ℕ) (e : Edge (List ℕ) Refusal) : Type 0 where
    theory : TheoryText
    read : theory_at folder max (package_path packages full) ≡ Ok theory
    tag : TagText
    has : IsMember tag (requirements theory)
    is : edge_of listed (package_path packages full) tag ≡ e

  edge_tag : (full : List ℕ) (e : Edge (List ℕ) Refusal) → HasEdge (edges_of folder max packages listed) full e
      → EdgeTag full e
  edge_tag full e h =
      let path = package_path packages full in
      let (u, there, made) = bind-ok (theory_at folder max path) (λ u. Ok (edges_in listed path (requirements u)))
      h.all h.are in
      let here : IsMember e (edges_in listed path (requirements u)) =
      subst (IsMember e) (sym (same_Ok (edges_in listed path (requirements u)) h.all made)) h.here in
      let (tag, has, is) = tag_of_edge listed path (requirements u) e here in
      record { theory = u; read = there; tag = tag; has = has; is = is }

  picks_target : (path : List ℕ) (tag : TagText) (e : Edge (List ℕ) Refusal) (k : List ℕ) → edge_of listed path tag
      ≡ e → e.target ≡ Ok k → picked listed tag.value ≡ Some k
  picks_target path tag e k is t = some_or-ok (NotInstalled path tag.line) (picked listed tag.value) k
      (ap (λ z. z.target) is ∙ t)

  abbrev requires_by : (full other : List ℕ) (e : Edge (List ℕ) Refusal) → EdgeTag full e → e.target ≡ Ok other
      → Requires folder max packages listed full other
  requires_by full other e h t =
      record {
        theory = h.theory;
        read = h.read;
        tag = h.tag;
        has = h.has;
        picks = picks_target (package_path packages full) h.tag e other h.is t;
      }

  pub needed_by : (path : List ℕ) (tags : List TagText) (k : List ℕ) → Reaches (edges_of folder max packages listed)
      (edges_in listed path tags) k → IsNeeded folder max packages listed tags k
  needed_by path tags k (walks.First j e m t) =
      let (tag, has, is) = tag_of_edge listed path tags e m in
      ByTag j tag has (picks_target path tag e j is t)
  needed_by path tags k (walks.Further i j e r h t) =
      ByPackage i j (needed_by path tags i r) (requires_by i j e (edge_tag i e h) t)

  leads_by : (i k : List ℕ) → Leads (edges_of folder max packages listed) i k → LeadsTo folder max packages listed i k
  leads_by i k (walks.Here j) = Same j
  leads_by i k (walks.Along a j b e l h t) = Along a j b (leads_by a j l) (requires_by j b e (edge_tag j e h) t)

  turns_by : (path : List ℕ) (before after : List TagText) (tag : TagText) (full : List ℕ)
      (order front back : List (List ℕ))
      → walk_from bytes_eq (edges_of folder max packages listed) (length listed)
      (edges_in listed path (before ++ tag ∷ after)) ≡ Walked order
      → picked listed tag.value ≡ Some full → order ≡ front ++ full ∷ back → (other : List ℕ) → IsMember other front
      → IsNeeded folder max packages listed (before ++ tag ∷ []) other
  turns_by path before after tag full order front back walk picks cut other m =
      let edges = edges_of folder max packages listed in
      let cut_walk : walk_from bytes_eq edges (length listed) (edges_in listed path before ++ edge_of listed path tag ∷ edges_in listed path after) ≡ Walked order =
      ap (walk_from bytes_eq edges (length listed)) (sym (map-append (edge_of listed path) before (tag ∷ after)))
      ∙ walk in
      let reached = gives_turns bytes_eq bytes_decides edges (length listed) (edges_in listed path before)
      (edges_in listed path after) (edge_of listed path tag) full order front back
      cut_walk (ap (some_or (NotInstalled path tag.line)) picks) cut other m in
      needed_by path (before ++ tag ∷ []) other
      (subst (λ es. Reaches edges es other) (sym (map-append (edge_of listed path) before (tag ∷ []))) reached)

  from_walk : (path : List ℕ) (tags : List TagText) (order : List (List ℕ))
      → walk_from bytes_eq (edges_of folder max packages listed) (length listed) (edges_in listed path tags)
      ≡ Walked order → IsRequired folder max packages listed tags order
  from_walk path tags order walk =
      let edges = edges_of folder max packages listed in
      let w = gives_walk bytes_eq bytes_decides edges (length listed) (edges_in listed path tags) order walk in
      record {
        once = w.once;
        own = are_picked listed path tags order (edge_of listed path) (λ tag. refl) w.starts;
        behind = λ front back full cut.
            let (es, are, into) = w.behind front back full cut in
            let (u, there, made) = bind-ok (theory_at folder max (package_path packages full))
            (λ u. Ok (edges_in listed (package_path packages full) (requirements u))) es are in
            let same = same_Ok (edges_in listed (package_path packages full) (requirements u)) es made in (
              u,
              there,
              are_picked listed (package_path packages full) (requirements u) front
                  (edge_of listed (package_path packages full)) (λ tag. refl)
                  (subst (λ z. LeadInto edges z front) (sym same) into),
            );
        needed = λ full m. needed_by path tags full (w.reached full m);
        in_turn = λ before after tag full front back cut picks at other m.
            turns_by path before after tag full order front back
            (ap (λ ts. walk_from bytes_eq edges (length listed) (edges_in listed path ts)) (sym cut) ∙ walk) picks
            at other m;
      }

  -- ---- refusals

  no_target : (path : List ℕ) (tags : List TagText) (at : List ℕ) (ts : List TagText) (tag : TagText)
      (e : Edge (List ℕ) Refusal) (refusal : Refusal) → IsFile folder max packages listed path tags at ts
      → IsMember tag ts
      → edge_of listed at tag ≡ e → e.target ≡ Err refusal → IsRefused folder max packages listed path tags refusal
  no_target path tags at ts tag e refusal file has is t =
      let (none, same) = some_err (NotInstalled at tag.line) refusal (picked listed tag.value)
      (ap (λ z. z.target) is ∙ t) in
      subst (IsRefused folder max packages listed path tags) same (NoPackage at ts tag file has none)

  round : (path : List ℕ) (tags : List TagText) (j k : List ℕ) (e : Edge (List ℕ) Refusal)
      → Reaches (edges_of folder max packages listed) (edges_in listed path tags) j
      → HasEdge (edges_of folder max packages listed) j e
      → e.target ≡ Ok k → Leads (edges_of folder max packages listed) k j
      → IsRefused folder max packages listed path tags e.back
  round path tags j k e r h t l =
      let g = edge_tag j e h in
      subst (IsRefused folder max packages listed path tags) (ap (λ z. z.back) g.is)
      (Round j k (needed_by path tags j r) (requires_by j k e g t) (leads_by k j l))

  from_stop : (path : List ℕ) (tags : List TagText) (refusal : Refusal)
      → HasStop (edges_of folder max packages listed) (edges_in listed path tags) refusal
      → IsRefused folder max packages listed path tags refusal
  from_stop path tags refusal (walks.NoEdges k fault r are) =
      BadFile k fault (needed_by path tags k r)
      (theory_err (theory_at folder max (package_path packages k)) fault are)
    where
      theory_err : (x : Result TheoryText Refusal) (f : Refusal)
          → (x >>= λ t. Ok (edges_in listed (package_path packages k) (requirements t))) ≡ Err f → x ≡ Err f
      theory_err (Ok t) f e = absurd cc
      theory_err (Err g) f e = let same : g ≡ f = cc in ap Err same
  from_stop path tags refusal (walks.NoTarget e fault (inl m) t) =
      let (tag, has, is) = tag_of_edge listed path tags e m in
      no_target path tags path tags tag e fault First has is t
  from_stop path tags refusal (walks.NoTarget e fault (inr (k, r, h)) t) =
      let g = edge_tag k e h in
      no_target path tags (package_path packages k) (requirements g.theory) g.tag e fault
      (OfPackage k g.theory (needed_by path tags k r) g.read) g.has g.is t
  from_stop path tags refusal (walks.Cycle j k e r h t l) = round path tags j k e r h t l

walked_err : (w : Walk (List ℕ) Refusal) (refusal : Refusal) → walked w ≡ Err refusal → w ≡ Stops refusal
walked_err (Walked ks) refusal e = absurd cc
walked_err (Stops other) refusal e = let same : other ≡ refusal = cc in ap Stops same
walked_err TooDeep refusal e = absurd cc

bind_err : {A B E : Type 0} (r : Result A E) (f : A → Result B E) (fault : E) → (r >>= f) ≡ Err fault
    → (r ≡ Err fault) ⊎ ((x : A) × (r ≡ Ok x) × (f x ≡ Err fault))
bind_err (Ok x) f fault e = inr (x, refl, e)
bind_err (Err d) f fault e = inl (let same : d ≡ fault = cc in ap Err same)

-- ---- the laws

by_tags : (folder : Folder) (max : ℕ) (packages path : List ℕ) (order : List (List ℕ)) (t : TheoryText)
    → theory_at folder max path ≡ Ok t
    → (tags : List TagText) → requirements t ≡ tags → required_by folder max packages path tags ≡ Ok order
    → AreRequired folder max packages path order
by_tags folder max packages path order t read [] none e = record {
  theory = t;
  read = read;
  none = λ again. sym (same_Ok [] order e);
  some = λ some. absurd (some none);
}
by_tags folder max packages path order t read (tag ∷ tags) some e =
    let over : required_over folder max packages path (requirements t) ≡ Ok order =
    ap (required_over folder max packages path) some ∙ e in
    let (listed, index, walk) = bind-ok (index_at folder (index_path packages))
    (required_listed folder max packages path (requirements t)) order over in
    let whole = walk_from bytes_eq (edges_of folder max packages listed) (length listed)
    (edges_in listed path (requirements t)) in
    record {
      theory = t;
      read = read;
      none = λ none. absurd (no_tag tag tags (sym none ∙ some));
      some = λ has. (
        listed,
        index,
        from_walk folder max packages listed path (requirements t) order
            (walked_ok whole order (required_ends folder max packages path listed (requirements t)) walk),
      );
    }
  where
    no_tag : (x : TagText) (xs : List TagText) → [] ≡ x ∷ xs → ⊥
    no_tag x xs e = cc

pub gives_required : GivesRequired
gives_required folder max packages path order e =
    let (t, read, rest) =
    bind-ok (theory_at folder max path) (λ t. required_by folder max packages path (requirements t)) order e in
    by_tags folder max packages path order t read (requirements t) refl rest

refused_by : (folder : Folder) (max : ℕ) (packages path : List ℕ) (refusal : Refusal) (t : TheoryText)
    (tags : List TagText) → requirements t ≡ tags → required_by folder max packages path tags ≡ Err refusal
    → (requirements t ≢ []) × ((index_at folder (index_path packages) ≡ Err refusal)
    ⊎ ((listed : List (List ℕ)) × (index_at folder (index_path packages) ≡ Ok listed)
    × IsRefused folder max packages listed path (requirements t) refusal))
refused_by folder max packages path refusal t [] none e = absurd cc
refused_by folder max packages path refusal t (tag ∷ tags) some e =
    let over : required_over folder max packages path (requirements t) ≡ Err refusal =
    ap (required_over folder max packages path) some ∙ e in (
      λ none. no_tag tag tags (sym none ∙ some),
      elim (bind_err (index_at folder (index_path packages))
          (required_listed folder max packages path (requirements t)) refusal over) [
            | inl bad ↦ inl bad
            | inr (listed, index, walk) ↦ inr (
              listed,
              index,
              from_stop folder max packages listed path (requirements t) refusal
                  (gives_stop bytes_eq bytes_decides (edges_of folder max packages listed) (length listed)
                  (edges_in listed path (requirements t)) refusal
                  (walked_err (walk_from bytes_eq (edges_of folder max packages listed) (length listed)
                  (edges_in listed path (requirements t))) refusal walk)),
            )
          ],
    )
  where
    no_tag : (x : TagText) (xs : List TagText) → [] ≡ x ∷ xs → ⊥
    no_tag x xs e = cc

pub gives_refusal : GivesRefusal
gives_refusal folder max packages path refusal e =
    elim (bind_err (theory_at folder max path) (λ t. required_by folder max packages path (requirements t)) refusal e) [
      | inl bad ↦ inl bad
      | inr (t, read, rest) ↦ let more = refused_by folder max packages path refusal t (requirements t) refl rest in
          inr (t, read, more.0, more.1)
    ]
