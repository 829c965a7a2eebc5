-- What is collected tag by tag, and name by name.
use Rattle.std.specs.Prelude.{Option}
use Rattle.std.specs.Borrow.{Bor}
use Rattle.std.specs.List.{list_any, filter}
use Rattle.std.specs.Option.{option_map}
use Rattle.std.specs.Str.{bytes_eq}
use Rattle.std.proofs.Common.{◌≡◌, ◌<◌, ◌+◌, ℕ, Bool, true, false, cond, List, [], ◌∷◌, ◌++◌, map, length}
use Rattle.std.proofs.Common.{take, get_or, reverse, Ok, Some, inl, inr, refl, sym, ap, ◌∙◌, append-nil}
use Rattle.std.proofs.lemmas.Bool.{cases_Bool}
use Rattle.std.proofs.lemmas.List.{map-append}
use Rattle.std.proofs.lemmas.List.Elements.{filter-append}
use Rattle.ot_logic.specs.Answers.{◌>>=◌, some_or}
use Rattle.ot_io.specs.Folder.{Folder}
use Rattle.ot_theory.specs.Theory.{TagText, theory}
use Rattle.ot_theory.specs.Answers.{tag_of, tags_of, theory_of}
use Rattle.ot_theory.specs.declared.theory.Tag.{Tag}
use Rattle.ot_theory.specs.declared.theory.Theory.{Theory}
use Rattle.ot_blocks.specs.Paths.{name_part}
use Rattle.ot_blocks.proofs.Collecting.{no_tag, map_more}
use Rattle.ot_repo.specs.Required.{TheoryTooLarge, NotInstalled, RequiresCycle, is_requirement}
use Rattle.ot_repo.specs.Required.{picked, picked_by_name, edge_of, text_at, in_file}
use Rattle.ot_repo.specs.Required.{requirements, required_over, required_by, required}
use Rattle.ot_repo.specs.Reading.{texts_of, edge_at, AreListed}
use Rattle.ot_repo.specs.declared.requirements.Requirement.{Requirement}
use Rattle.ot_repo.proofs.Picking.{by_name_more, picked_so_far, so_far_more}
use Rattle.ot_repo.proofs.Requiring.{picked_member, member_reverse}
use Rattle.ot_logic.proofs.Members.{IsMember-push}

-- ---- names

-- what a list of names has past its end
abbrev pub no_name : Bor (List ℕ)
no_name = record { ref_ptr = (0, 0); now = [] }

-- a look-up after a change
pub looked_up : (new old : Option (Bor (List ℕ))) (b : Bool) (v : Bor (List ℕ)) → new ≡ cond b (Some v) old
    → option_map (λ f. f.now) new ≡ cond b (Some v.now) (option_map (λ f. f.now) old)
looked_up new old true v e = ap (option_map (λ f. f.now)) e
looked_up new old false v e = ap (option_map (λ f. f.now)) e

module _ (names : List (Bor (List ℕ))) (k : ℕ) (lt : k < length names) (old new : Option (List ℕ))
    (value : List ℕ) where
  pub by_name_step : (key : List ℕ) → old ≡ picked_by_name (texts_of (take k names)) value
      → key ≡ name_part (get_or names k no_name).now
      → new ≡ cond (bytes_eq key value) (Some (get_or names k no_name).now) old
      → new ≡ picked_by_name (texts_of (take (k + 1) names)) value
  by_name_step key before at e =
      e ∙ ap (λ o. cond (bytes_eq key value) (Some (get_or names k no_name).now) o) before
      ∙ ap (λ z. cond (bytes_eq z value) (Some (get_or names k no_name).now)
      (picked_by_name (texts_of (take k names)) value)) at
      ∙ sym (by_name_more (texts_of (take k names)) (get_or names k no_name).now value)
      ∙ ap (λ xs. picked_by_name xs value)
      (sym (map_more (λ f. f.now) names k (get_or names k no_name) no_name lt refl))

  pub so_far_step : old ≡ picked_so_far (texts_of names) (texts_of (take k names)) value
      → new ≡ cond (bytes_eq (get_or names k no_name).now value) (Some (get_or names k no_name).now) old
      → new ≡ picked_so_far (texts_of names) (texts_of (take (k + 1) names)) value
  so_far_step before e =
      e ∙ ap (λ o. cond (bytes_eq (get_or names k no_name).now value) (Some (get_or names k no_name).now) o) before
      ∙ sym (so_far_more (texts_of names) (texts_of (take k names)) (get_or names k no_name).now value)
      ∙ ap (λ xs. picked_so_far (texts_of names) xs value)
      (sym (map_more (λ f. f.now) names k (get_or names k no_name) no_name lt refl))

-- ---- tags

-- the edges of the tags so far
pub record TagsSoFar (listed : List (List ℕ)) (ts : List Tag) (found : List Requirement) : Type 0 where
  pub edges : (path : List ℕ) → map (edge_at path) found
      ≡ map (edge_of listed path) (filter is_requirement (tags_of ts))
  pub picked : AreListed listed found

filter_one : (p : TagText → Bool) (t : TagText) (b : Bool) → p t ≡ b → filter p (t ∷ []) ≡ cond b (t ∷ []) []
filter_one p t true e = rw e refl
filter_one p t false e = rw e refl

module _ (listed : List (List ℕ)) (ts : List Tag) (k : ℕ) (found : List Requirement) (lt : k < length ts)
    (s : TagsSoFar listed (take k ts) found) where
  filter_more : (b : Bool) → is_requirement (tag_of (get_or ts k no_tag)) ≡ b
      → filter is_requirement (tags_of (take (k + 1) ts)) ≡ filter is_requirement (tags_of (take k ts))
      ++ cond b (tag_of (get_or ts k no_tag) ∷ []) []
  filter_more b e =
      ap (filter is_requirement) (map_more tag_of ts k (get_or ts k no_tag) no_tag lt refl)
      ∙ filter-append is_requirement (tags_of (take k ts)) (tag_of (get_or ts k no_tag) ∷ [])
      ∙ ap (λ z. filter is_requirement (tags_of (take k ts)) ++ z)
      (filter_one is_requirement (tag_of (get_or ts k no_tag)) b e)

  pub tag_passed : is_requirement (tag_of (get_or ts k no_tag)) ≡ false → TagsSoFar listed (take (k + 1) ts) found
  tag_passed e = record {
    edges = λ path. s.edges path ∙ ap (map (edge_of listed path))
        (sym (filter_more false e ∙ append-nil (filter is_requirement (tags_of (take k ts)))));
    picked = s.picked;
  }

  pub tag_taken : (o : Option (Bor (List ℕ))) → is_requirement (tag_of (get_or ts k no_tag)) ≡ true
      → option_map (λ f. f.now) o ≡ picked listed (get_or ts k no_tag).value.now
      → TagsSoFar listed (take (k + 1) ts) (found ++ record { line = (get_or ts k no_tag).line; full = o } ∷ [])
  tag_taken o e pick = record {
    edges = λ path.
        map-append (edge_at path) found (record { line = (get_or ts k no_tag).line; full = o } ∷ [])
        ∙ ap (λ z. z ++ edge_at path (record { line = (get_or ts k no_tag).line; full = o }) ∷ []) (s.edges path)
        ∙ ap (λ z. map (edge_of listed path) (filter is_requirement (tags_of (take k ts)))
        ++ record {
          target = some_or (NotInstalled path (get_or ts k no_tag).line) z;
          back = RequiresCycle path (get_or ts k no_tag).line;
        } ∷ []) pick
        ∙ sym (map-append (edge_of listed path) (filter is_requirement (tags_of (take k ts)))
        (tag_of (get_or ts k no_tag) ∷ []))
        ∙ ap (map (edge_of listed path)) (sym (filter_more true e));
    picked = λ r m full at. elim (IsMember-push r found (record { line = (get_or ts k no_tag).line; full = o }) m) [
      | inl h ↦ s.picked r h full at
      | inr q ↦ picked_member listed (get_or ts k no_tag).value.now full
          (sym pick ∙ ap (λ z. option_map (λ f. f.now) z.full) q ∙ at)
    ];
  }

pub listed_reversed : (listed : List (List ℕ)) (found : List Requirement) → AreListed listed found
    → AreListed listed (reverse found)
listed_reversed listed found are r m full at = are r (member_reverse r found m) full at

-- ---- where there is a tag

module _ (folder : Folder) (max : ℕ) (packages path : List ℕ) where
  some_tag : (ts : List Tag) → list_any (λ tag. is_requirement (tag_of tag)) ts ≡ true
      → required_by folder max packages path (filter is_requirement (tags_of ts))
      ≡ required_over folder max packages path (filter is_requirement (tags_of ts))
  some_tag [] e = absurd cc
  some_tag (t ∷ ts) e = elim (cases_Bool (is_requirement (tag_of t))) [
    | inl e1 ↦ rw e1 refl
    | inr e1 ↦ let later : list_any (λ tag. is_requirement (tag_of tag)) ts ≡ true = rw e1 at e in
        rw e1 (some_tag ts later)
  ]

  no_tags : (ts : List Tag) → list_any (λ tag. is_requirement (tag_of tag)) ts ≡ false
      → required_by folder max packages path (filter is_requirement (tags_of ts)) ≡ Ok []
  no_tags [] e = refl
  no_tags (t ∷ ts) e = elim (cases_Bool (is_requirement (tag_of t))) [
    | inl e1 ↦ let never : true ≡ false = rw e1 at e in absurd cc
    | inr e1 ↦ let later : list_any (λ tag. is_requirement (tag_of tag)) ts ≡ false = rw e1 at e in
        rw e1 (no_tags ts later)
  ]

  module _ (text : List ℕ) (t : Theory) (read : text_at folder max (TheoryTooLarge path) path ≡ Ok text)
      (parsed : in_file path (theory text) ≡ Ok (theory_of t)) where
    whole : required folder max packages path ≡ required_by folder max packages path
        (filter is_requirement (tags_of t.tags.items))
    whole = ap (λ r. (r >>= λ x. in_file path (theory x)) >>= λ u. required_by folder max packages path
        (requirements u)) read ∙ ap (λ r. r >>= λ u. required_by folder max packages path (requirements u)) parsed

    pub with_tags : list_any (λ tag. is_requirement (tag_of tag)) t.tags.items ≡ true → required_over folder max
        packages path (filter is_requirement (tags_of t.tags.items)) ≡ required folder max packages path
    with_tags e = sym (whole ∙ some_tag t.tags.items e)

    pub without_tags : list_any (λ tag. is_requirement (tag_of tag)) t.tags.items ≡ false
        → required folder max packages path ≡ Ok []
    without_tags e = whole ∙ no_tags t.tags.items e
