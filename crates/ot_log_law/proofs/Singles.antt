-- The words that stand for one record.
use Rattle.std.specs.Prelude.{slice_get}
use Rattle.std.specs.List.{AllByRecursion, flat_map, list_all}
use Rattle.std.proofs.Common.{◌≡◌, ◌≢◌, ℕ, suc, ◌≤◌, true, ◌&&◌, List, [], ◌∷◌, ◌++◌, map}
use Rattle.std.proofs.Common.{length, Some, Ok, refl, sym, ap, subst, inr, arith, length-append}
use Rattle.std.proofs.lemmas.Bool.{and_from}
use Rattle.ot_logic.specs.Names.{Name}
use Rattle.ot_logic.specs.Naming.{names}
use Rattle.ot_logic.specs.Trees.{Ty, Variable, Tm, Sequent}
use Rattle.ot_logic.specs.Hol.{depth_limit, depth_ty, bool_ty, HasType}
use Rattle.ot_logic.specs.Hol.{TypeMap, TermMap, IsTyped, once_each}
use Rattle.ot_logic.specs.Answers.{◌>>=◌, unless}
use Rattle.ot_logic.specs.Rules.{abs_thm_rule, subst_rule}
use Rattle.ot_logic.specs.declared.command.Cmd.{Cmd}
use Rattle.ot_logic.specs.declared.command.Cmd.TheVariants as words
use Rattle.ot_laws.proofs.Tests.{tells_names, has_type-is}
use Rattle.ot_laws.proofs.Sets.{same_set-then, same_set-both_ways, all-member, all-from_members}
use Rattle.ot_laws.proofs.Hypotheses.{same_set-once_each, distinct-once_each}
use Rattle.ot_kernel.specs.Axioms.{axiom_rule}
use Rattle.ot_log_format.specs.declared.word.RecordWord.{RecordWord}
use Rattle.ot_log_format.specs.Tokens.{BadStep}
use Rattle.ot_log_format.specs.Steps.{Step, log_depth, abs_thm_step, subst_step, assumption_step, is_proposition}
use Rattle.ot_log_format.specs.State.{LogState, makes_sequent}
use Rattle.ot_machine.specs.Writable.{IsWritable}
use Rattle.ot_machine.specs.NamesIn.{TyNamed, TmNamed}
use Rattle.ot_log_records.specs.Entries.{Node, Operand, Count, AName, AType, ATerm}
use Rattle.ot_log_records.specs.Entries.{ASequent, type_nodes, term_nodes, operand_nodes}
use Rattle.ot_log_records.specs.Expansions.{of_term, of_two, abs_thm_entry, type_pair}
use Rattle.ot_log_records.specs.Expansions.{term_pair, subst_entry, by_text, assumption_entry}
use Rattle.ot_log_records.specs.Same.{IsSame}
use Rattle.ot_log_records.specs.Logged.{Log}
use Rattle.ot_log_records.proofs.Fitting.{Fits, fits-more}
use Rattle.ot_log_records.proofs.Standing.{Stands, AreWithin}
use Rattle.ot_log_records.proofs.Within.{within-append}
use Rattle.ot_log_records.proofs.Sequents.{Feeds, assumption-stands, abs_thm-feeds, assumption-feeds, subst-feeds}
use Rattle.ot_log_records.proofs.Ruled.{abs_thm-ruled}
use Rattle.ot_log_records.proofs.Firsts.{subst-ruled}
use Rattle.ot_log_records.proofs.Same.{GivesSame, abs_thm-same, subst-same}
use Rattle.ot_log_law.proofs.Kept.{IsKeptTerm, IsKept, AllFit}
use Rattle.ot_log_law.proofs.KeptWords.{axiom-is, all-typed}
use Rattle.ot_log_law.proofs.Told.{AreNodes, AreOperands}
use Rattle.ot_log_law.proofs.Texts.{by_text-same, by_text-bool}
use Rattle.ot_log_law.proofs.Makes.{type-named, term-named, number-low, Makes}
use Rattle.ot_log_law.proofs.Makes.{makes-one, same-refl, kept-within, kept-same}
use Rattle.ot_logic.proofs.Elements.{AllByRecursion-append}

pub more-fits : (t : Tm Name) → Fits names depth_limit t → Fits names log_depth t
more-fits t f = fits-more names depth_limit log_depth (omega arith) t f

-- ---- lists of nodes

abbrev pub Nodes : List Node → Type 0
Nodes ns = AreWithin ns × AreNodes IsWritable ns

pub nodes-then : (ns ms : List Node) → Nodes ns → Nodes ms → Nodes (ns ++ ms)
nodes-then ns ms h k = (within-append ns ms h.0 k.0, AllByRecursion-append _ ns ms h.1 k.1)

pub no-nodes : Nodes []
no-nodes = (tt, tt)

-- ---- a record of a term

pub makes-term : (w : Cmd) (v : RecordWord) (x : Log) (st : LogState Name) (t : Tm Name) (step : Step names)
    (q : Sequent Name)
    → w ≢ words.Axiom → Stands x st → IsKept q → IsKeptTerm t → TmNamed IsWritable t
    → Feeds st (of_term v t) (makes_sequent names step)
    → step ≡ Ok q → Makes w x st (of_term v t ∷ []) q
makes-term w v x st t step q n s k kt named f h =
    let nodes = nodes-then (term_nodes t) [] (term-named t kt.typed.0 kt.typed.1 (more-fits t kt.fits) named)
    no-nodes in
    makes-one w x st (of_term v t) step q q n s k nodes.0
    (record { nodes = nodes.1; operands = (tt, tt) }) f h (same-refl q k.distinct)

-- ---- a record of two theorems

pub makes-two : (w : Cmd) (v : RecordWord) (x : Log) (st : LogState Name) (i j : ℕ) (a b q : Sequent Name)
    (step : Step names)
    → w ≢ words.Axiom → Stands x st → IsKept q → slice_get st.sequents i ≡ Some a → slice_get st.sequents j ≡ Some b
    → Feeds st (of_two v i j) (makes_sequent names step) → GivesSame names tells_names q step
    → Makes w x st (of_two v i j ∷ []) q
makes-two w v x st i j a b q step n s k h l f g =
    makes-one w x st (of_two v i j) step q g.0 n s k tt
    (record { nodes = tt; operands = (number-low x st i a s h, (number-low x st j b s l, tt)) }) f g.1 g.2

-- ---- absThm: the variable's type is in the theorem

pub abs_thm-makes : (x : Log) (st : LogState Name) (i : ℕ) (v : Variable Name) (a r q : Sequent Name) → Stands x st
    → IsKept q
    → depth_ty names v.ty ≤ depth_limit → IsWritable v.name → TyNamed IsWritable v.ty → slice_get st.sequents i
    ≡ Some r
    → IsSame names a r
    → abs_thm_rule names v a ≡ Ok q → Makes words.AbsThm x st (abs_thm_entry v i ∷ []) q
abs_thm-makes x st i v a r q s k d nm ty h same rule =
    let g = abs_thm-same names tells_names v a r q same (abs_thm-ruled names tells_names v a q rule) in
    let nodes = nodes-then (type_nodes v.ty) [] (type-named v.ty d ty) no-nodes in
    makes-one words.AbsThm x st (abs_thm_entry v i) (abs_thm_step names v r) q g.0 (λ e. cc) s k nodes.0
    (record { nodes = nodes.1; operands = (nm, (tt, (number-low x st i r s h, tt))) }) (abs_thm-feeds st v i r h) g.1
    g.2

-- ---- subst

abbrev pub TypePair : Name × Ty Name → Type 0
TypePair p = IsWritable p.0 × ((depth_ty names p.1 ≤ depth_limit) × TyNamed IsWritable p.1)

abbrev pub TermPair : Variable Name × Tm Name → Type 0
TermPair p =
    (IsWritable p.0.name × ((depth_ty names p.0.ty ≤ depth_limit) × TyNamed IsWritable p.0.ty))
    × (IsKeptTerm p.1 × TmNamed IsWritable p.1)

type_pairs-nodes : (m : TypeMap names) → AllByRecursion TypePair m
    → Nodes (flat_map operand_nodes (flat_map type_pair m))
type_pairs-nodes [] h = no-nodes
type_pairs-nodes (p ∷ m) h =
    nodes-then (type_nodes p.1) (flat_map operand_nodes (flat_map type_pair m))
    (type-named p.1 h.0.1.0 h.0.1.1) (type_pairs-nodes m h.1)

term_pairs-nodes : (m : TermMap names) → AllByRecursion TermPair m
    → Nodes (flat_map operand_nodes (flat_map term_pair m))
term_pairs-nodes [] h = no-nodes
term_pairs-nodes (p ∷ m) h =
    nodes-then (type_nodes p.0.ty) (term_nodes p.1 ++ flat_map operand_nodes (flat_map term_pair m))
    (type-named p.0.ty h.0.0.1.0 h.0.0.1.1)
    (nodes-then (term_nodes p.1) (flat_map operand_nodes (flat_map term_pair m))
    (term-named p.1 h.0.1.0.typed.0 h.0.1.0.typed.1 (more-fits p.1 h.0.1.0.fits) h.0.1.1) (term_pairs-nodes m h.1))

split : (ns ms : List Node) → Nodes (ns ++ ms) → Nodes ns × Nodes ms
split [] ms h = (no-nodes, h)
split (n ∷ ns) ms h = let r = split ns ms (h.0.1, h.1.1) in (((h.0.0, r.0.0), (h.1.0, r.0.1)), r.1)

pub flat-append : (os ps : List Operand) → Nodes (flat_map operand_nodes os) → Nodes (flat_map operand_nodes ps)
    → Nodes (flat_map operand_nodes (os ++ ps))
flat-append [] ps h k = k
flat-append (Count c ∷ os) ps h k = flat-append os ps h k
flat-append (AName n ∷ os) ps h k = flat-append os ps h k
flat-append (ASequent i ∷ os) ps h k = flat-append os ps h k
flat-append (AType t ∷ os) ps h k =
    let r = split (type_nodes t) (flat_map operand_nodes os) h in
    nodes-then (type_nodes t) (flat_map operand_nodes (os ++ ps)) r.0 (flat-append os ps r.1 k)
flat-append (ATerm t ∷ os) ps h k =
    let r = split (term_nodes t) (flat_map operand_nodes os) h in
    nodes-then (term_nodes t) (flat_map operand_nodes (os ++ ps)) r.0 (flat-append os ps r.1 k)

type_pairs-told : (s n : ℕ) (m : TypeMap names) → AllByRecursion TypePair m
    → AreOperands IsWritable s n (flat_map type_pair m)
type_pairs-told s n [] h = tt
type_pairs-told s n (p ∷ m) h = (h.0.0, (tt, type_pairs-told s n m h.1))

term_pairs-told : (s n : ℕ) (m : TermMap names) → AllByRecursion TermPair m
    → AreOperands IsWritable s n (flat_map term_pair m)
term_pairs-told s n [] h = tt
term_pairs-told s n (p ∷ m) h = (h.0.0.0, (tt, (tt, term_pairs-told s n m h.1)))

type_pairs-long : (m : TypeMap names) → length m ≤ length (flat_map type_pair m)
type_pairs-long [] = omega arith
type_pairs-long (p ∷ m) = let h = type_pairs-long m in omega (arith, h)

term_pairs-long : (m : TermMap names) → length m ≤ length (flat_map term_pair m)
term_pairs-long [] = omega arith
term_pairs-long (p ∷ m) = let h = term_pairs-long m in omega (arith, h)

pub subst-makes : (x : Log) (st : LogState Name) (i : ℕ) (sm : TypeMap names) (m : TermMap names)
    (a r q : Sequent Name)
    → Stands x st → IsKept q → IsTyped names m → AllByRecursion TypePair sm → AllByRecursion TermPair m
    → slice_get st.sequents i ≡ Some r → IsSame names a r
    → subst_rule names sm m a ≡ Ok q → Makes words.Subst x st (subst_entry sm m i ∷ []) q
subst-makes x st i sm m a r q s k typed hs hm h same rule =
    let g = subst-same names tells_names sm m a r q same (subst-ruled names tells_names sm m a q typed rule) in
    let e = subst_entry sm m i in
    let nodes = flat-append (flat_map type_pair sm) (Count (length m) ∷ flat_map term_pair m)
    (type_pairs-nodes sm hs) (term_pairs-nodes m hm) in
    let n = length e.operands in
    let long = length-append (flat_map type_pair sm) (Count (length m) ∷ flat_map term_pair m) in
    let l1 = type_pairs-long sm in
    let l2 = term_pairs-long m in
    let ops : AreOperands IsWritable x.sequents n e.operands = (
      number-low x st i r s h,
      (
        omega (arith, long, l1),
        AllByRecursion-append _ (flat_map type_pair sm) (Count (length m) ∷ flat_map term_pair m)
            (type_pairs-told x.sequents n sm hs) (omega (arith, long, l2), term_pairs-told x.sequents n m hm),
      ),
    ) in
    makes-one words.Subst x st e (subst_step names sm m r) q g.0 (λ z. cc) s k nodes.0
    (record { nodes = nodes.1; operands = ops }) (subst-feeds st sm m i r h) g.1 g.2

-- ---- axiom

terms-nodes : (ts : List (Tm Name)) → AllByRecursion (λ h. HasType names h (bool_ty names)) ts → AllFit ts
    → AllByRecursion (TmNamed IsWritable) ts → Nodes (flat_map operand_nodes (map ATerm ts))
terms-nodes [] w f n = no-nodes
terms-nodes (t ∷ ts) w f n =
    nodes-then (term_nodes t) (flat_map operand_nodes (map ATerm ts))
    (term-named t (bool_ty names) w.0 (more-fits t f.0) n.0) (terms-nodes ts w.1 f.1 n.1)

terms-told : (s n : ℕ) (ts : List (Tm Name)) → AreOperands IsWritable s n (map ATerm ts)
terms-told s n [] = tt
terms-told s n (t ∷ ts) = (tt, terms-told s n ts)

terms-long : (ts : List (Tm Name)) → length (map ATerm ts) ≡ length ts
terms-long [] = refl
terms-long (t ∷ ts) = ap suc (terms-long ts)

propositions : (ts : List (Tm Name)) → AllByRecursion (λ h. HasType names h (bool_ty names)) ts
    → list_all (is_proposition names) ts ≡ true
propositions [] h = refl
propositions (t ∷ ts) h = let e = (has_type-is names tells_names t (bool_ty names)).1 h.0 in
    λ i. e i && propositions ts h.1 i

pub axiom-makes : (x : Log) (st : LogState Name) (hyps : List (Tm Name)) (p : Tm Name) (q : Sequent Name)
    → Stands x st → IsKept q
    → AllFit hyps → IsKeptTerm p → AllByRecursion (TmNamed IsWritable) hyps → TmNamed IsWritable p
    → axiom_rule hyps p ≡ Ok q → Makes words.Axiom x st (assumption_entry hyps p ∷ []) q
axiom-makes x st hyps p q s k f kp nh np rule =
    let (a, b, is) = axiom-is hyps p q rule in
    let typed = all-typed hyps b in
    let ts = by_text hyps in
    let set = by_text-same hyps typed in
    let ts_typed = by_text-bool hyps typed in
    let ts_fit : AllFit ts =
    all-from_members _ ts (λ y m. all-member (Fits names depth_limit) hyps f y (set.to y m)) in
    let ts_named : AllByRecursion (TmNamed IsWritable) ts =
    all-from_members _ ts (λ y m. all-member (TmNamed IsWritable) hyps nh y (set.to y m)) in
    let r : Sequent Name = record { hyps = once_each names ts; concl = p } in
    let same : IsSame names q r = subst (λ z. IsSame names z r) (sym is) (record {
      hyps =
          same_set-then (same_set-both_ways (same_set-once_each names tells_names hyps))
          (same_set-then (same_set-both_ways set) (same_set-once_each names tells_names ts));
      concl = refl;
      left = distinct-once_each names tells_names hyps;
      right = distinct-once_each names tells_names ts;
    }) in
    let made : assumption_step names ts p ≡ Ok r =
    ap (λ z. unless BadStep z >>= λ _. Ok r)
    (and_from (is_proposition names p) (list_all (is_proposition names) ts) a (propositions ts ts_typed)) in
    let e = assumption_entry hyps p in
    let nodes = nodes-then (term_nodes p) (flat_map operand_nodes (map ATerm ts))
    (term-named p kp.typed.0 kp.typed.1 (more-fits p kp.fits) np) (terms-nodes ts ts_typed ts_fit ts_named) in
    let o = assumption-stands x st e (assumption_step names ts p) r s nodes.0
    (assumption-feeds st hyps p) made (kept-within r (kept-same q r same k)) in
    let long = terms-long ts in
    record {
      now = o.now;
      stands = o.stands;
      front = [];
      last = r;
      sequents = o.sequents;
      same = same;
      assumptions = inr (refl, o.assumptions);
      definitions = o.definitions;
      results = o.results;
      told = (
        record {
          nodes = nodes.1;
          operands = (tt, (omega (arith, long), terms-told x.sequents (length e.operands) ts));
        },
        tt,
      );
    }
