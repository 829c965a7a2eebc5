-- The plan, from its parts, and what it is.
use Rattle.std.proofs.Common.{true, ◌≡◌, ◌≢◌, ◌<◌, ℕ, zero, suc, length, map, get_or, arith, inl}
use Rattle.std.proofs.Common.{inr, List, [], ◌∷◌, refl, sym, ap, subst, ◌∙◌, Some, None, Ok, Err}
use Rattle.std.specs.Prelude.{Option, Result, codes, IfOk}
use Rattle.std.proofs.lemmas.List.{length-map}
use Rattle.ot_logic.specs.Answers.{◌>>=◌}
use Rattle.ot_logic.specs.Lists.{IsMember}
use Rattle.ot_theory.specs.Theory.{BlockText, has_block}
use Rattle.ot_walk.specs.Walk.{Walk, Walked, Stops, TooDeep}
use Rattle.ot_blocks.specs.Order.{order_of, imports_at}
use Rattle.ot_blocks.specs.Structure.{Places, PlanText, block_places, imports_of, graph_of, faults_of}
use Rattle.ot_blocks.specs.Structure.{structure_faults, first_fault, ordered, order_at, main_order}
use Rattle.ot_blocks.specs.Structure.{imported_blocks, plan, PlanEnds, IsWithin, IsPlan, GivesPlan}
use Rattle.ot_blocks.specs.declared.walk.Import.{Import}
use Rattle.ot_blocks.specs.Answers.{IsFirstFault, Walks, Plans, plan_of}
use Rattle.ot_blocks.specs.Ordering.{NamesBlocks, Reaches, Here, Along, IsOrder}
use Rattle.ot_blocks.specs.declared.structure.Plan.{Plan}
use Rattle.ot_blocks.specs.declared.fault.PlanFault.{PlanFault}
use Rattle.ot_blocks.specs.declared.fault.PlanFault.TheVariants.{At, Memory}
use Rattle.ot_blocks.specs.declared.fault.StructureFault.{StructureFault}
use Rattle.ot_blocks.proofs.Ordering.{ends_always, gives_order, member_map}
use Rattle.ot_blocks.proofs.Placing.{graph_inside, main_inside, place_there, some_there}

-- the plan, by its parts
abbrev planned_after : Walk ℕ ℕ → List (List Import) → Result (Unit {0}) (ℕ × StructureFault)
    → Result PlanText (ℕ × StructureFault)
planned_after order g first =
    first >>= λ sound. ordered order >>= λ blocks. Ok (record { imports = imported_blocks g; order = blocks })

abbrev planned : List (ℕ × StructureFault) → Walk ℕ ℕ → List (List Import) → Result PlanText (ℕ × StructureFault)
planned faults order g = planned_after order g (first_fault faults)

-- ---- where the names lead to the places of the blocks

module _ (blocks : List BlockText) (places : Places)
    (holds : (name : List ℕ) → places name ≡ block_places blocks name) where
  same_places : places ≡ block_places blocks
  same_places = λ i name. holds name i

  graph_is : (g : List (List Import)) → graph_of places blocks ≡ g → graph_of (block_places blocks) blocks ≡ g
  graph_is g e = ap (λ p. graph_of p blocks) (sym same_places) ∙ e

  -- a fault of a statement
  pub plan_refused : (e : PlanFault) → IsFirstFault e (faults_of places blocks) → Plans (Err e) (plan blocks)
  plan_refused (At line fault) e =
      ap (planned_after (main_order blocks) (graph_of (block_places blocks) blocks))
      (subst (λ p. first_fault (faults_of p blocks) ≡ Err (line, fault)) same_places e)
  plan_refused (Memory memory) e = tt

  module _ (g : List (List Import)) (drawn : graph_of places blocks ≡ g) (main : ℕ)
      (main_is : places (codes "main") ≡ Some main) where
    pub graph_is_inside : NamesBlocks g
    graph_is_inside = subst NamesBlocks (graph_is g drawn) (graph_inside blocks)

    pub main_is_inside : main < length g
    main_is_inside =
        subst (λ z. main < length z) (graph_is g drawn)
        (main_inside blocks (codes "main") main (sym (holds (codes "main")) ∙ main_is))

    plan_is : (order : Walk ℕ ℕ) → faults_of places blocks ≡ [] → order_of g main ≡ order
        → plan blocks ≡ planned [] order g
    plan_is order sound e =
        ap (λ fs. planned fs (main_order blocks) (graph_of (block_places blocks) blocks))
        (subst (λ p. faults_of p blocks ≡ []) same_places sound)
        ∙ ap (λ z. planned [] (order_at z (block_places blocks (codes "main"))) z) (graph_is g drawn)
        ∙ ap (λ o. planned [] (order_at g o) g) (sym (holds (codes "main")) ∙ main_is)
        ∙ ap (λ o. planned [] o g) e

    -- no fault
    pub plan_made : (order : List ℕ) (imports : List (List ℕ)) → faults_of places blocks ≡ []
        → order_of g main ≡ Walked order → imports ≡ imported_blocks g
        → plan blocks ≡ Ok (record { imports = imports; order = order })
    plan_made order imports sound e lists = plan_is (Walked order) sound e ∙ ap with_imports (sym lists) where
      with_imports : List (List ℕ) → Result PlanText (ℕ × StructureFault)
      with_imports z = Ok (record { imports = z; order = order })

    -- a cycle
    pub order_refused : (e : PlanFault) → faults_of places blocks ≡ [] → Walks (Err e) (order_of g main)
        → Plans (Err e) (plan blocks)
    order_refused (At line fault) sound e = plan_is (Stops line) sound e.0 ∙ ap (λ f. Err (line, f)) (sym e.1)
    order_refused (Memory memory) sound e = tt

-- ---- what the plan names

reaches_inside : (g : List (List Import)) → NamesBlocks g → (a c : ℕ) → Reaches g a c → a < length g → c < length g
reaches_inside g inside _ _ (Here b) lt = lt
reaches_inside g inside _ _ (Along a c i is_import rest) lt =
    reaches_inside g inside i.block c rest (inside a i is_import)

imported_inside : (g : List (List Import)) (n : ℕ)
    → ((b : ℕ) (i : Import) → IsMember i (imports_at g b) → i.block < n)
    → (b block : ℕ) → IsMember block (get_or (imported_blocks g) b []) → block < n
imported_inside [] n inside b block m = absurd m
imported_inside (is ∷ g) n inside zero block m =
    let (i, there, same) = member_map (λ (i : Import). i.block) is block m in
    subst (λ z. z < n) same (inside 0 i there)
imported_inside (is ∷ g) n inside (suc b) block m = imported_inside g n (λ c. inside (suc c)) b block m

-- ---- laws

pub plan_ends : PlanEnds
plan_ends blocks = ends (block_places blocks (codes "main")) refl where
  ends : (o : Option ℕ) → block_places blocks (codes "main") ≡ o
      → order_at (graph_of (block_places blocks) blocks) o ≢ TooDeep
  ends None e = λ deep. cc
  ends (Some main) e = ends_always (graph_of (block_places blocks) blocks) main (graph_inside blocks)
      (main_inside blocks (codes "main") main e)

pub gives_plan : GivesPlan
gives_plan blocks p has_main is =
    let main = some_there (block_places blocks (codes "main")) (place_there blocks (codes "main") has_main) in
    by_faults main.0 main.1 (structure_faults blocks) refl (main_order blocks)
    (ap (order_at (graph_of (block_places blocks) blocks)) main.1) is
  where
    within : (main : ℕ) → block_places blocks (codes "main") ≡ Some main → (order : List ℕ)
        → IsOrder (graph_of (block_places blocks) blocks) main order
        → IsWithin (length blocks)
        (record { imports = imported_blocks (graph_of (block_places blocks) blocks); order = order })
    within main at order is_order =
        let g = graph_of (block_places blocks) blocks in
        let size : length g ≡ length blocks = length-map blocks (imports_of (block_places blocks)) in
        record {
          lists = length-map g (λ is. map (λ i. i.block) is) ∙ size;
          imports = imported_inside g (length blocks) (λ b i m. omega (arith, graph_inside blocks b i m, size));
          order = λ b m.
              omega (
                arith,
                reaches_inside g (graph_inside blocks) main b (is_order.reached b m)
                    (main_inside blocks (codes "main") main at),
                size,
              );
        }

    by_faults : (main : ℕ) → block_places blocks (codes "main") ≡ Some main → (faults : List (ℕ × StructureFault))
        → structure_faults blocks ≡ faults
        → (order : Walk ℕ ℕ) → order ≡ order_of (graph_of (block_places blocks) blocks) main
        → planned faults order (graph_of (block_places blocks) blocks) ≡ Ok p → IsPlan blocks p
    by_faults main at (f ∷ fs) sound order order_is is = cc
    by_faults main at [] sound (Stops line) order_is is = cc
    by_faults main at [] sound TooDeep order_is is =
        absurd (ends_always (graph_of (block_places blocks) blocks) main (graph_inside blocks)
        (main_inside blocks (codes "main") main at) (sym order_is))
    by_faults main at [] sound (Walked order) order_is is =
        let same : record { imports = imported_blocks (graph_of (block_places blocks) blocks); order = order } ≡ p = cc in
        subst (IsPlan blocks) same record {
          sound = sound;
          within = within main at order (gives_order (graph_of (block_places blocks) blocks) main order (sym order_is));
          imports = refl;
          main = main;
          main_is = at;
          order = gives_order (graph_of (block_places blocks) blocks) main order (sym order_is);
        }

pub sound_plan : (result : Result Plan PlanFault) (blocks : List BlockText) → has_block blocks (codes "main") ≡ true
    → Plans result (plan blocks)
    → IfOk result (λ p. IsPlan blocks (plan_of p))
sound_plan (Ok p) blocks has_main is = gives_plan blocks (plan_of p) has_main is
sound_plan (Err e) blocks has_main is = tt
