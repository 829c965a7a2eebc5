-- Definitions by number stay what they were as a kernel's tables and theorems grow.
use Rattle.std.specs.Prelude.{◌≡◌, ℕ, ◌<◌, ◌≤◌, List as Items, [], ◌∷◌, map, length}
use Rattle.std.specs.List.{All}
use Rattle.std.proofs.Common.{refl, sym, ap, ◌∙◌, subst, arith}
use Rattle.std.proofs.lemmas.List.Elements.{All-head, All-tail, All-weaker}
use Rattle.ot_logic.specs.Names.{Name}
use Rattle.ot_logic.specs.Trees.{TyVar, Bound, Symbol, ConSymbol, OpSymbol, Definition, ConDef, ListDef, TyDef}
use Rattle.ot_logic.specs.Hol.{theorems}
use Rattle.ot_logic.specs.Naming.{names, name_of, IsNameTable}
use Rattle.ot_logic.specs.Renamed.{map_symbol}
use Rattle.ot_logic.specs.Table.{Extends}
use Rattle.ot_logic.proofs.TableLemmas.{get_or-Extends}
use Rattle.ot_laws.specs.Next.{AreSymbolsOf}
use Rattle.ot_define.specs.Signature.{Symbols}
use Rattle.ot_term.specs.Term.{TermTable}
use Rattle.ot_term.specs.declared.term.VarKey.{VarKey}
use Rattle.ot_kernel.specs.declared.definition.Definition as code
use Rattle.ot_kernel.specs.declared.definition.Definition.TheVariants.{Con, List, TyOp}
use Rattle.ot_kernel.specs.State.{State, name_at, theorem_at}
use Rattle.ot_kernel.specs.Definitions.{right_side, pairs_at, definition_at, theorems_at}
use Rattle.ot_kernel.specs.Definitions.{IsDefinitionIn, IsHeld, number_of, IsSignature}
use Rattle.ot_kernel.specs.Spelled.{Held, undefined_state, state_of, IsKernel}
use Rattle.ot_kernel.proofs.Namings.{name_of-Extends}

-- ---- what a definition stands for
-- numbers of a kernel are of a greater one
definition_within : (n t h m u k : ℕ) → n ≤ m → t ≤ u → h ≤ k → (d : code.Definition) → IsDefinitionIn n t h d
    → IsDefinitionIn m u k d
definition_within n t h m u k a b c (Con name th) p = (omega (arith, p.0, a), omega (arith, p.1, c))
definition_within n t h m u k a b c (List ns vs premise th) p = (
  record {
    names = λ i d l. let w = p.0.names i d l in omega (arith, w, a);
    variables = λ i d l. let w = p.0.variables i d l in (omega (arith, w.0, a), omega (arith, w.1, b));
    many = p.0.many;
  },
  omega (arith, p.1, c),
  omega (arith, p.2, c),
)
definition_within n t h m u k a b c (TyOp name abs rep vars premise abs_th rep_th) p = (
  omega (arith, p.0, a),
  omega (arith, p.1, a),
  omega (arith, p.2, a),
  λ i d l. let w = p.3 i d l in
      omega (arith, w, a),
  omega (arith, p.4, c),
  omega (arith, p.5, c),
  omega (arith, p.6, c),
)

module _ (s z : State) (more_names : Extends s.names z.names) (more_types : Extends s.types z.types)
    (more_theorems : Extends s.theorems z.theorems) where
  pub name_stays : (i : ℕ) → i < length s.names → name_at z i ≡ name_at s i
  name_stays i h = get_or-Extends s.names z.names more_names i [] h

  pub names_stay : (is : Items ℕ) → All (λ i. i < length s.names) is → map (name_at z) is ≡ map (name_at s) is
  names_stay [] h = refl
  names_stay (i ∷ is) h =
      let a = name_stays i (All-head (λ i. i < length s.names) i is h) in
      let b = names_stay is (All-tail (λ i. i < length s.names) i is h) in
      λ j. a j ∷ b j

  pub theorem_stays : (i : ℕ) → i < length s.theorems → theorem_at z i ≡ theorem_at s i
  theorem_stays i h = get_or-Extends s.theorems z.theorems more_theorems i (record { hyps = []; concl = Bound 0 }) h

  pub pairs_stay : (ns : Items ℕ) (vs : Items VarKey) → All (λ i. i < length s.names) ns
      → All (λ v. (v.name < length s.names) × (v.ty < length s.types)) vs → pairs_at z ns vs ≡ pairs_at s ns vs
  pairs_stay [] vs h g = refl
  pairs_stay (n ∷ ns) [] h g = refl
  pairs_stay (n ∷ ns) (v ∷ vs) h g =
      let w = All-head (λ (v : VarKey). (v.name < length s.names) × (v.ty < length s.types)) v vs g in
      let a = name_stays n (All-head (λ i. i < length s.names) n ns h) in
      let b = name_stays v.name w.0 in
      let c = get_or-Extends s.types z.types more_types v.ty (TyVar []) w.1 in
      let d = pairs_stay ns vs (All-tail (λ i. i < length s.names) n ns h)
      (All-tail (λ (v : VarKey). (v.name < length s.names) × (v.ty < length s.types)) v vs g) in
      λ j. (a j, record { name = b j; ty = c j }) ∷ d j

  pub definition_stays : (d : code.Definition) → IsDefinitionIn (length s.names) (length s.types) (length s.theorems)
      d → definition_at z d ≡ definition_at s d
  definition_stays (Con name th) h =
      let a = name_stays name h.0 in
      let b = theorem_stays th h.1 in
      λ j. ConDef (a j) (right_side (b j).concl)
  definition_stays (List ns vs premise th) h =
      let a = pairs_stay ns.items vs.items h.0.names h.0.variables in
      let b = theorem_stays premise h.1 in
      λ j. ListDef (a j) (b j)
  definition_stays (TyOp name abs rep vars premise abs_th rep_th) h =
      let a = name_stays name h.0 in
      let b = name_stays abs h.1 in
      let c = name_stays rep h.2 in
      let d = names_stay vars.items h.3 in
      let e = theorem_stays premise h.4 in
      λ j. TyDef (a j) (b j) (c j) (d j) (e j)

  pub definitions_stay : (ds : Items code.Definition)
      → All (IsDefinitionIn (length s.names) (length s.types) (length s.theorems)) ds → map (definition_at z) ds
      ≡ map (definition_at s) ds
  definitions_stay [] h = refl
  definitions_stay (d ∷ ds) h =
      let a = definition_stays d
      (All-head (IsDefinitionIn (length s.names) (length s.types) (length s.theorems)) d ds h) in
      let b = definitions_stay ds
      (All-tail (IsDefinitionIn (length s.names) (length s.types) (length s.theorems)) d ds h) in
      λ j. a j ∷ b j

  -- their theorems too
  theorems_stay : (d : code.Definition) → IsDefinitionIn (length s.names) (length s.types) (length s.theorems) d
      → theorems_at z d ≡ theorems_at s d
  theorems_stay (Con name th) h = ap (λ q. q ∷ []) (theorem_stays th h.1)
  theorems_stay (List ns vs premise th) h = ap (λ q. q ∷ []) (theorem_stays th h.2)
  theorems_stay (TyOp name abs rep vars premise abs_th rep_th) h =
      let a = theorem_stays abs_th h.5 in
      let b = theorem_stays rep_th h.6 in
      λ j. a j ∷ b j ∷ []

  pub held_stays : (d : code.Definition) → IsHeld s d → IsHeld z d
  held_stays d h = record {
    within = definition_within (length s.names) (length s.types) (length s.theorems) (length z.names) (length z.types)
        (length z.theorems) more_names.longer more_types.longer more_theorems.longer d h.within;
    theorems = theorems_stay d h.within ∙ h.theorems ∙ ap (theorems names) (sym (definition_stays d h.within));
  }

  pub held_stay : (ds : Items code.Definition) → All (IsHeld s) ds → All (IsHeld z) ds
  held_stay ds h = All-weaker (IsHeld s) (IsHeld z) held_stays ds h

-- the definitions of a kernel stay as names, types and theorems grow
pub definitions_kept : (ns : Items Name) (t : TermTable) (held : Held) (s : State) → IsKernel ns t held
    → Extends ns s.names → Extends (undefined_state ns t held).types s.types
    → Extends (undefined_state ns t held).theorems s.theorems
    → map (definition_at s) held.definitions ≡ (state_of ns t held).definitions
definitions_kept ns t held s k a b c = definitions_stay (undefined_state ns t held) s a b c held.definitions
    (λ i d h. (k.accepted i d h).within)

-- ---- symbols
module _ (ns ms : Items Name) (h : IsNameTable ns) (k : IsNameTable ms) (more : Extends ns ms) where
  symbol_stays : (s : Symbol ℕ) → number_of s < length ns → map_symbol (name_of ms) s ≡ map_symbol (name_of ns) s
  symbol_stays (ConSymbol n) l = ap ConSymbol (sym (name_of-Extends ns ms h k more n l))
  symbol_stays (OpSymbol n) l = ap OpSymbol (sym (name_of-Extends ns ms h k more n l))

  symbols_stay : (ss : Items (Symbol ℕ)) → All (λ x. number_of x < length ns) ss → map (map_symbol (name_of ms)) ss
      ≡ map (map_symbol (name_of ns)) ss
  symbols_stay [] l = refl
  symbols_stay (s ∷ ss) l =
      let a = symbol_stays s (All-head (λ (x : Symbol ℕ). number_of x < length ns) s ss l) in
      let b = symbols_stay ss (All-tail (λ (x : Symbol ℕ). number_of x < length ns) s ss l) in
      λ j. a j ∷ b j

  -- the signature is of the same definitions
  pub signature_kept : (dl el : Items (Definition Name)) (s : Symbols) → el ≡ dl → IsSignature ns dl s
      → IsSignature ms el s
  signature_kept dl el s same g = record {
    symbols =
        let a = symbols_stay s.defined g.defined in
        let b = symbols_stay s.used g.used in
        subst (λ (z : Items (Definition Name) × Items (Symbol Name) × Items (Symbol Name)). AreSymbolsOf names z.0 z.1
        z.2) (λ j. (sym same j, sym a j, sym b j)) g.symbols;
    defined = λ i d l. let w = g.defined i d l in omega (arith, w, more.longer);
    used = λ i d l. let w = g.used i d l in omega (arith, w, more.longer);
  }
