-- What is collected from a list, element by element, and its first fault.
use Rattle.std.proofs.Common.{◌≡◌, ◌<◌, ◌+◌, ℕ, suc, List, [], ◌∷◌, ◌++◌, length, map, take, drop}
use Rattle.std.proofs.Common.{get_or, refl, sym, ap, subst, ◌∙◌, append-nil, Some, None, Ok, Err}
use Rattle.std.specs.Prelude.{Option, filter_map, flat_map}
use Rattle.std.specs.List.{cons_option}
use Rattle.std.proofs.Math.Seq.{drop-cons}
use Rattle.std.proofs.lemmas.List.{take_more, map-append, take-append-drop}
use Rattle.std.proofs.lemmas.List.Concat.{flat_map-append}
use Rattle.std.proofs.lemmas.List.Elements.{filter_map-append}
use Rattle.ot_theory.specs.Theory.{BlockText}
use Rattle.ot_theory.specs.Answers.{tag_of, tags_of, block_of, blocks_of}
use Rattle.ot_theory.specs.declared.theory.Block.{Block}
use Rattle.ot_theory.specs.declared.theory.Tag.{Tag}
use Rattle.ot_blocks.specs.Structure.{Places, fault_of, faults_of, import_of, imports_of, graph_of, first_fault}
use Rattle.ot_blocks.specs.Answers.{ReadsImport, IsFirstFault}
use Rattle.ot_blocks.specs.declared.walk.Import.{Import}
use Rattle.ot_blocks.specs.declared.fault.PlanFault.{PlanFault}
use Rattle.ot_blocks.specs.declared.fault.PlanFault.TheVariants.{At, Memory}
use Rattle.ot_blocks.specs.declared.fault.StructureFault.{StructureFault}

module _ {X Y : Type 0} (v : X → Y) (xs : List X) (k : ℕ) (x d : X) where
  pub map_more : k < length xs → x ≡ get_or xs k d → map v (take (k + 1) xs) ≡ map v (take k xs) ++ v x ∷ []
  map_more lt is =
      ap (map v) (take_more xs k d lt) ∙ map-append v (take k xs) (get_or xs k d ∷ [])
      ∙ ap (λ z. map v (take k xs) ++ v z ∷ []) (sym is)

  map_cut : k < length xs → x ≡ get_or xs k d → map v xs ≡ map v (take k xs) ++ v x ∷ map v (drop (suc k) xs)
  map_cut lt is =
      ap (map v) (sym (take-append-drop k xs))
      ∙ map-append v (take k xs) (drop k xs)
      ∙ ap (λ z. map v (take k xs) ++ map v z) (drop-cons xs k d lt)
      ∙ ap (λ z. map v (take k xs) ++ v z ∷ map v (drop (suc k) xs)) (sym is)

  pub filter_map_more : {Z : Type 0} (h : Y → Option Z) (zs : List Z) (o : Option Z) → k < length xs
      → x ≡ get_or xs k d
      → filter_map h (map v (take k xs)) ≡ zs → h (v x) ≡ o → filter_map h (map v (take (k + 1) xs)) ≡ zs
      ++ cons_option o []
  filter_map_more h zs o lt is before here =
      ap (filter_map h) (map_more lt is)
      ∙ filter_map-append h (map v (take k xs)) (v x ∷ [])
      ∙ ap (λ z. z ++ cons_option (h (v x)) []) before
      ∙ ap (λ z. zs ++ cons_option z []) here

  pub first_found : (h : Y → Option (ℕ × StructureFault)) (fault : ℕ × StructureFault) → k < length xs
      → x ≡ get_or xs k d
      → filter_map h (map v (take k xs)) ≡ [] → h (v x) ≡ Some fault → first_fault (filter_map h (map v xs))
      ≡ Err fault
  first_found h fault lt is before here =
      ap (λ z. first_fault (filter_map h z)) (map_cut lt is)
      ∙ ap first_fault (filter_map-append h (map v (take k xs)) (v x ∷ map v (drop (suc k) xs)))
      ∙ ap (λ z. first_fault (z ++ cons_option (h (v x)) (filter_map h (map v (drop (suc k) xs))))) before
      ∙ ap (λ z. first_fault (cons_option z (filter_map h (map v (drop (suc k) xs))))) here

-- ---- blocks

first_append : (faults more : List (ℕ × StructureFault)) (fault : ℕ × StructureFault) → first_fault faults ≡ Err fault
    → first_fault (faults ++ more) ≡ Err fault
first_append [] more fault e = cc
first_append (f ∷ fs) more fault e = e

module _ (places : Places) (bs : List Block) (k : ℕ) (b : Block) where
  pub faults_more : k < length bs → b ≡ get_or bs k b → faults_of places (blocks_of (take k bs)) ≡ []
      → filter_map (fault_of places) (tags_of b.statements.items) ≡ []
      → faults_of places (blocks_of (take (k + 1) bs)) ≡ []
  faults_more lt is before here =
      ap (faults_of places) (map_more block_of bs k b b lt is)
      ∙ ap (filter_map (fault_of places))
      (flat_map-append (λ c. c.statements) (blocks_of (take k bs)) (block_of b ∷ []))
      ∙ filter_map-append (fault_of places) (flat_map (λ c. c.statements) (blocks_of (take k bs)))
      (tags_of b.statements.items ++ [])
      ∙ ap (λ z. z ++ filter_map (fault_of places) (tags_of b.statements.items ++ [])) before
      ∙ ap (filter_map (fault_of places)) (append-nil (tags_of b.statements.items))
      ∙ here

  pub faults_found : (fault : ℕ × StructureFault) → k < length bs → b ≡ get_or bs k b
      → faults_of places (blocks_of (take k bs)) ≡ []
      → first_fault (filter_map (fault_of places) (tags_of b.statements.items)) ≡ Err fault
      → first_fault (faults_of places (blocks_of bs)) ≡ Err fault
  faults_found fault lt is before here =
      let rest = flat_map (λ (c : BlockText). c.statements) (blocks_of (drop (suc k) bs)) in
      ap (λ z. first_fault (faults_of places z)) (map_cut block_of bs k b b lt is)
      ∙ ap (λ z. first_fault (filter_map (fault_of places) z))
      (flat_map-append (λ c. c.statements) (blocks_of (take k bs)) (block_of b ∷ blocks_of (drop (suc k) bs)))
      ∙ ap first_fault (filter_map-append (fault_of places) (flat_map (λ c. c.statements) (blocks_of (take k bs)))
      (tags_of b.statements.items ++ rest))
      ∙ ap (λ z. first_fault (z ++ filter_map (fault_of places) (tags_of b.statements.items ++ rest))) before
      ∙ ap first_fault (filter_map-append (fault_of places) (tags_of b.statements.items) rest)
      ∙ first_append (filter_map (fault_of places) (tags_of b.statements.items)) (filter_map (fault_of places) rest)
      fault here

-- ---- what the code finds

-- what a list of statements has past its end
abbrev pub no_tag : Tag
no_tag = record {
  line = 0;
  key = record { ref_ptr = (0, 0); now = [] };
  value = record { ref_ptr = (0, 0); now = [] };
}

-- the statements so far have no fault, and these imports
pub record ReadSoFar (places : Places) (ts : List Tag) (imports : List Import) : Type 0 where
  pub sound : filter_map (fault_of places) (tags_of ts) ≡ []
  pub so_far : filter_map (import_of places) (tags_of ts) ≡ imports

-- the blocks so far have no fault, and these imports
pub record DrawnSoFar (places : Places) (bs : List Block) (g : List (List Import)) : Type 0 where
  pub sound : faults_of places (blocks_of bs) ≡ []
  pub so_far : graph_of places (blocks_of bs) ≡ g

module _ (places : Places) (ts : List Tag) (k : ℕ) (imports : List Import) (lt : k < length ts)
    (so_far : ReadSoFar places (take k ts) imports) where
  read : (o : Option Import) → ReadsImport (Ok o) (fault_of places (tag_of (get_or ts k no_tag)))
      (import_of places (tag_of (get_or ts k no_tag)))
      → ReadSoFar places (take (k + 1) ts) (imports ++ cons_option o [])
  read o here = record {
    sound = filter_map_more tag_of ts k (get_or ts k no_tag) no_tag (fault_of places) [] None lt refl so_far.sound
        here.0;
    so_far = filter_map_more tag_of ts k (get_or ts k no_tag) no_tag (import_of places) imports o lt refl
        so_far.so_far here.1;
  }

  -- a statement that is an import
  pub import_read : (i : Import) → ReadsImport (Ok (Some i)) (fault_of places (tag_of (get_or ts k no_tag)))
      (import_of places (tag_of (get_or ts k no_tag)))
      → ReadSoFar places (take (k + 1) ts) (imports ++ i ∷ [])
  import_read i here = read (Some i) here

  -- another one
  pub other_read : ReadsImport (Ok None) (fault_of places (tag_of (get_or ts k no_tag)))
      (import_of places (tag_of (get_or ts k no_tag))) → ReadSoFar places (take (k + 1) ts) imports
  other_read here = subst (ReadSoFar places (take (k + 1) ts)) (append-nil imports) (read None here)

  -- one that is refused
  pub statement_refused : (e : PlanFault) → ReadsImport (Err e) (fault_of places (tag_of (get_or ts k no_tag)))
      (import_of places (tag_of (get_or ts k no_tag)))
      → IsFirstFault e (filter_map (fault_of places) (tags_of ts))
  statement_refused (At line fault) here = first_found tag_of ts k (get_or ts k no_tag) no_tag (fault_of places)
      (line, fault) lt refl so_far.sound here
  statement_refused (Memory memory) here = tt

module _ (places : Places) (bs : List Block) (k : ℕ) (b : Block) (g : List (List Import)) (lt : k < length bs)
    (is : b ≡ get_or bs k b) (so_far : DrawnSoFar places (take k bs) g) where
  -- a block without a fault
  pub block_drawn : (imports : List Import) → filter_map (fault_of places) (tags_of b.statements.items) ≡ []
      → filter_map (import_of places) (tags_of b.statements.items) ≡ imports
      → DrawnSoFar places (take (k + 1) bs) (g ++ imports ∷ [])
  block_drawn imports sound here = record {
    sound = faults_more places bs k b lt is so_far.sound sound;
    so_far =
        ap (graph_of places) (map_more block_of bs k b b lt is)
        ∙ map-append (imports_of places) (blocks_of (take k bs)) (block_of b ∷ [])
        ∙ ap (λ z. z ++ imports_of places (block_of b) ∷ []) so_far.so_far
        ∙ ap (λ z. g ++ z ∷ []) here;
  }

  -- one with a fault
  pub block_refused : (e : PlanFault) → IsFirstFault e (filter_map (fault_of places) (tags_of b.statements.items))
      → IsFirstFault e (faults_of places (blocks_of bs))
  block_refused (At line fault) here = faults_found places bs k b (line, fault) lt is so_far.sound here
  block_refused (Memory memory) here = tt
