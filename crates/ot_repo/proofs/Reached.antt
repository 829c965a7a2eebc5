-- What the walk over packages has reached.
use Rattle.std.specs.Prelude.{string_bytes}
use Rattle.std.proofs.Common.{◌≡◌, ℕ, List, [], ◌∷◌, Result, Ok, Err, Some}
use Rattle.std.proofs.Common.{None, length, inl, inr, refl, sym, ap, subst, ◌∙◌, arith}
use Rattle.std.specs.Prelude.{Option, true, IfErr}
use Rattle.std.specs.List.{list_any, filter}
use Rattle.std.specs.Str.{bytes_eq}
use Rattle.std.proofs.lemmas.Bool.{cases_Bool}
use Rattle.ot_io.specs.Folder.{Folder}
use Rattle.ot_logic.specs.Lists.{IsMember}
use Rattle.ot_logic.specs.Answers.{◌>>=◌}
use Rattle.ot_logic.specs.Limits.{index_limit}
use Rattle.ot_theory.specs.Lines.{lines_of}
use Rattle.ot_theory.specs.Theory.{TagText, TheoryText, theory}
use Rattle.ot_theory.specs.Answers.{tag_of, tags_of, theory_of}
use Rattle.ot_theory.specs.declared.theory.Tag.{Tag}
use Rattle.ot_theory.specs.declared.theory.Theory.{Theory}
use Rattle.ot_walk.specs.Walk.{Edge, walk_from}
use Rattle.ot_walk.specs.Walks.{Reaches, First, Further, IsReached}
use Rattle.ot_repo.specs.Required.{Refusal, TheoryTooLarge, IndexTooLarge, text_at, in_file}
use Rattle.ot_repo.specs.Required.{theory_at, is_requirement, requirements}
use Rattle.ot_repo.specs.Required.{names_of, index_at, index_path, edges_in, edges_of, walked}
use Rattle.ot_repo.specs.Required.{required_listed, required_over}
use Rattle.ot_repo.specs.Laws.{IsWalked, OwnFile, ListFile, PackageFile}
use Rattle.ot_repo.specs.Answers.{FailsAt, IsOfContent}
use Rattle.ot_repo.specs.Reading.{edges_left, IsReachedFile, IsTagFile, TheList, OfPackage, next_at}
use Rattle.ot_repo.specs.declared.fault.RepoFault.{RepoFault}
use Rattle.ot_repo.specs.declared.fault.RepoFault.TheVariants as faults
use Rattle.ot_repo.specs.declared.requirements.File.{File}
use Rattle.ot_repo.specs.declared.walk.Waiting.{Waiting}
use Rattle.ot_repo.specs.declared.walk.Mark.{Mark}
use Rattle.ot_repo.proofs.Requiring.{needed_by}
use Rattle.ot_repo.proofs.SoFar.{Rests}
use Rattle.ot_repo.proofs.Steps.{target_new}

-- ---- faults

pub fails_more : (P Q : List ℕ → Type 0) (e : RepoFault) → ((path : List ℕ) → P path → Q path) → FailsAt P e
    → FailsAt Q e
fails_more P Q (faults.Theory path line fault) more fails = tt
fails_more P Q (faults.TheoryTooLarge path) more fails = tt
fails_more P Q (faults.IndexTooLarge path) more fails = tt
fails_more P Q (faults.BadIndex path line) more fails = tt
fails_more P Q (faults.NotInstalled path line) more fails = tt
fails_more P Q (faults.RequiresCycle path line) more fails = tt
fails_more P Q (faults.NoFile path) more fails = tt
fails_more P Q (faults.ReadFault path) more fails = more (string_bytes path) fails
fails_more P Q (faults.Memory memory) more fails = tt

-- where no file is read there is no failure
pub inside_fails : (P : List ℕ → Type 0) (e : RepoFault) → IsOfContent e → FailsAt P e
inside_fails P (faults.Theory path line fault) inside = tt
inside_fails P (faults.TheoryTooLarge path) inside = tt
inside_fails P (faults.IndexTooLarge path) inside = tt
inside_fails P (faults.BadIndex path line) inside = tt
inside_fails P (faults.NotInstalled path line) inside = tt
inside_fails P (faults.RequiresCycle path line) inside = tt
inside_fails P (faults.NoFile path) inside = tt
inside_fails P (faults.ReadFault path) inside = let rose = (inside 0 0 0 0 None).0 in absurd (omega (arith, rose))
inside_fails P (faults.Memory memory) inside = tt

-- ---- the walk

module _ (edges : List ℕ → Result (List (Edge (List ℕ) Refusal)) Refusal) (start : List (Edge (List ℕ) Refusal)) where
  abbrev AreReached : File → Type 0
  AreReached file = (e : Edge (List ℕ) Refusal) → IsMember e (edges_left file) → IsReached edges start e

  -- the edges that are left were reached
  pub record ReachedSoFar (ws : List Waiting) (file : File) : Type 0 where
    pub here : AreReached file
    pub below : (w : Waiting) → IsMember w ws → AreReached w.file

  pub reached_target : (e : Edge (List ℕ) Refusal) (k : List ℕ) → IsReached edges start e → e.target ≡ Ok k
      → Reaches edges start k
  reached_target e k (inl first) t = First k e first t
  reached_target e k (inr (j, reached, has)) t = Further j k e reached has t

  pub reached_left : (ws : List Waiting) (file left : File) (e : Edge (List ℕ) Refusal)
      → edges_left file ≡ e ∷ edges_left left → ReachedSoFar ws file → ReachedSoFar ws left
  reached_left ws file left e cut s =
      record { here = λ f m. s.here f (subst (IsMember f) (sym cut) (inr m)); below = s.below }

  -- an edge that is followed leads to a package that is reached
  pub next_reached : (marked : List ℕ → Option Mark) (ws : List Waiting) (file left : File)
      (e : Edge (List ℕ) Refusal) (k : List ℕ) → edges_left file ≡ e ∷ edges_left left
      → next_at marked e ≡ Ok (Some k) → ReachedSoFar ws file → Reaches edges start k
  next_reached marked ws file left e k cut next s =
      reached_target e k (s.here e (subst (IsMember e) (sym cut) (inl refl)))
      (target_new marked e.back e.target k next).0

  pub reached_opened : (marked : List ℕ → Option Mark) (ws : List Waiting) (file above : File) (w : Waiting)
      (e : Edge (List ℕ) Refusal) (k : List ℕ) → edges_left file ≡ e ∷ edges_left w.file
      → next_at marked e ≡ Ok (Some k) → edges k ≡ Ok (edges_left above) → ReachedSoFar ws file
      → ReachedSoFar (w ∷ ws) above
  reached_opened marked ws file above w e k cut next are s =
      let rest = reached_left ws file w.file e cut s in
      record {
        here = λ f m.
            inr (
              k,
              next_reached marked ws file w.file e k cut next s,
              record { all = edges_left above; are = are; here = m },
            );
        below = λ v m. elim m [ inl same ↦ subst (λ u. AreReached u.file) same rest.here | inr h ↦ s.below v h ];
      }

  pub reached_finished : (ws : List Waiting) (file : File) (w : Waiting) → ReachedSoFar (w ∷ ws) file
      → ReachedSoFar ws w.file
  reached_finished ws file w s = record { here = s.below w (inl refl); below = λ v m. s.below v (inr m) }

-- over these edges the rest of the walk is the whole one, and the edges that are left were reached
pub record WalksOn (edges : List ℕ → Result (List (Edge (List ℕ) Refusal)) Refusal) (bound : ℕ)
    (start : List (Edge (List ℕ) Refusal)) (ws : List Waiting) (file : File) (done : List (List ℕ)) : Type 0 where
  pub rests : Rests edges (walk_from bytes_eq edges bound start) ws file done
  pub reached : ReachedSoFar edges start ws file

-- ---- the files that are needed

module _ (folder : Folder) (max : ℕ) (packages : List ℕ) where
  -- for these tags, by the edges of the first file
  pub reached_file : (listed : List (List ℕ)) (path : List ℕ) (tags : List TagText)
      (start : List (Edge (List ℕ) Refusal)) → start ≡ edges_in listed path tags
      → index_at folder (index_path packages) ≡ Ok listed
      → (file : List ℕ) → IsReachedFile (edges_of folder max packages listed) start packages file
      → IsTagFile folder max packages tags file
  reached_file listed path tags start are index file f =
      let reached = subst (λ es. Reaches (edges_of folder max packages listed) es f.full) are f.reached in
      subst (IsTagFile folder max packages tags) (sym f.file_is)
      (OfPackage listed f.full index (needed_by folder max packages listed path tags f.full reached))

  -- for a theory file
  pub tag_file : (path : List ℕ) (t : TheoryText) → theory_at folder max path ≡ Ok t → ¬ (requirements t ≡ [])
      → (file : List ℕ) → IsTagFile folder max packages (requirements t) file → IsWalked folder max packages path file
  tag_file path t read some file TheList = ListFile t read some
  tag_file path t read some file (OfPackage listed full index needed) = PackageFile t listed full read index needed

  pub own_file : (path file : List ℕ) → file ≡ path → IsWalked folder max packages path file
  own_file path file same = subst (IsWalked folder max packages path) (sym same) OwnFile

-- ---- what a part of the walk answers

pub if_fails : {X : Type 0} (P Q : List ℕ → Type 0) (r : Result X RepoFault) → ((path : List ℕ) → P path → Q path)
    → IfErr r (FailsAt P) → IfErr r (FailsAt Q)
if_fails P Q (Ok x) more fails = tt
if_fails P Q (Err e) more fails = fails_more P Q e more fails

module _ (folder : Folder) (max : ℕ) (packages : List ℕ) where
  pub list_file : (tags : List TagText) (file : List ℕ) → file ≡ index_path packages
      → IsTagFile folder max packages tags file
  list_file tags file same = subst (IsTagFile folder max packages tags) (sym same) TheList

  pub index_is : (path text : List ℕ) (listed : List (List ℕ)) → path ≡ index_path packages
      → text_at folder index_limit (IndexTooLarge path) path ≡ Ok text
      → names_of path (lines_of text) ≡ Ok listed → index_at folder (index_path packages) ≡ Ok listed
  index_is path text listed same read names = subst (λ z. index_at folder z ≡ Ok listed) same (rw (read, names) refl)

  -- the walk over the list of installed packages is what the tags require
  pub listed_walk : (listed : List (List ℕ)) (path : List ℕ) (tags : List TagText)
      (start : List (Edge (List ℕ) Refusal)) → start ≡ edges_in listed path tags
      → index_at folder (index_path packages) ≡ Ok listed
      → walked (walk_from bytes_eq (edges_of folder max packages listed) (length listed) start)
      ≡ required_over folder max packages path tags
  listed_walk listed path tags start are index =
      ap (λ es. walked (walk_from bytes_eq (edges_of folder max packages listed) (length listed) es)) are
      ∙ ap (λ r. r >>= required_listed folder max packages path tags) (sym index)

  some_tag : (ts : List Tag) → list_any (λ tag. is_requirement (tag_of tag)) ts ≡ true
      → ¬ (filter is_requirement (tags_of ts) ≡ [])
  some_tag [] e none = cc
  some_tag (t ∷ ts) e none = elim (cases_Bool (is_requirement (tag_of t))) [
    | inl is ↦ no_tag (tag_of t) (filter is_requirement (tags_of ts)) (sym (rw is at none))
    | inr is ↦ let later : list_any (λ tag. is_requirement (tag_of tag)) ts ≡ true = rw is at e in
        some_tag ts later (rw is at none)
  ]
    where
      no_tag : (x : TagText) (xs : List TagText) → [] ≡ x ∷ xs → ⊥
      no_tag x xs e = cc

  -- of a theory file with tags
  pub walked_file : (path text : List ℕ) (t : Theory) → text_at folder max (TheoryTooLarge path) path ≡ Ok text
      → in_file path (theory text) ≡ Ok (theory_of t)
      → list_any (λ tag. is_requirement (tag_of tag)) t.tags.items ≡ true → (file : List ℕ)
      → IsTagFile folder max packages (filter is_requirement (tags_of t.tags.items)) file
      → IsWalked folder max packages path file
  walked_file path text t read parsed some file f =
      let there : theory_at folder max path ≡ Ok (theory_of t) = ap (λ r. r >>= λ x. in_file path (theory x)) read
      ∙ parsed in
      tag_file folder max packages path (theory_of t) there (some_tag t.tags.items some) file f
