-- A definition that is accepted after some definitions is accepted after a part of them.
use Rattle.std.proofs.Common.{◌≡◌, ℕ, ◌==◌, inl, inr, Bool, true, false, cond, List, []}
use Rattle.std.proofs.Common.{◌∷◌, length, map, Result, Ok, Err, refl, sym, ◌∙◌, true≢false}
use Rattle.std.specs.Prelude.{◌||◌, ◌&&◌}
use Rattle.std.specs.List.{list_any, flat_map}
use Rattle.ot_logic.specs.Lists.{IsPart}
use Rattle.ot_logic.specs.Names.{Name}
use Rattle.ot_logic.specs.Naming.{names}
use Rattle.ot_logic.specs.Trees.{Variable, Tm, Sequent, Symbol, ConSymbol, OpSymbol, Definition}
use Rattle.ot_logic.specs.Hol.{same_var, symbols_tm, symbols_of, primitives, defined, used, vars_tm}
use Rattle.ot_logic.specs.Faults.{Fault, StackEmpty, Primitive, AlreadyDefined, SymbolInUse}
use Rattle.ot_logic.specs.Faults.{BadDefinitionList, HypothesesPresent, NotApplication, BadTypeVars}
use Rattle.ot_logic.specs.Answers.{◌>>=◌, unless, some_or}
use Rattle.ot_logic.specs.declared.command.Cmd.{Cmd}
use Rattle.ot_logic.specs.declared.command.Cmd.TheVariants as words
use Rattle.ot_laws.specs.Conditions.{is_among, same_symbol, refuse_first, refuse_defined}
use Rattle.ot_laws.specs.Conditions.{checked_symbols, checked_const, checked_list, checked_type}
use Rattle.ot_laws.specs.Conditions.{are_distinct, terms_given, is_empty, function_of, are_names_of}
use Rattle.ot_kernel.specs.Defining.{const_definition, list_definition, type_definition, all_defined, all_used}
use Rattle.ot_machine.specs.DefinitionLists.{pairs_of}
use Rattle.ot_machine.specs.Places.{as_name, as_list, as_term, as_theorem, as_each}
use Rattle.ot_trace.specs.Origins.{Origin, Define}
use Rattle.ot_machine.specs.Makers.{Read}
use Rattle.ot_machine.specs.Values.{values, definition_of, defined_by, value_at, definition_arity}
use Rattle.ot_written.proofs.Filters.{bool_cases, any-to, any-from, member-flat_map, flat_map-member}
use Rattle.ot_logic.proofs.Results.{bind-ok, bind-to, bind-under}

bind-first : {A B E : Type 0} (r s : Result A E) (f : A → Result B E) (b : B) → ((a : A) → r ≡ Ok a → s ≡ Ok a)
    → (r >>= f) ≡ Ok b → (s >>= f) ≡ Ok b
bind-first r s f b h p = let x = bind-ok r f b p in bind-to s f x.0 (Ok b) (h x.0 x.1) x.2

any-less : {X : Type 0} (f : X → Bool) (xs ys : List X) → IsPart xs ys → list_any f ys ≡ false → list_any f xs ≡ false
any-less f xs ys h p = elim (bool_cases (list_any f xs)) [
  | inl e ↦ (let x = any-to f xs e in absurd (true≢false (sym (any-from f x.0 ys (h x.0 x.1) x.2) ∙ p)))
  | inr e ↦ e
]

abbrev Symbols : Type 0
Symbols = List (Symbol Name)

-- what the second list has among it, the first has
abbrev IsLess : Symbols → Symbols → Type 0
IsLess es ds = (s : Symbol Name) → is_among names s ds ≡ false → is_among names s es ≡ false

less-more : (s : Symbol Name) (es ds : Symbols) → IsLess es ds → IsLess (s ∷ es) (s ∷ ds)
less-more s es ds h r p = go (same_symbol names r s) p
  where
    go : (b : Bool) → (b || is_among names r ds) ≡ false → (b || is_among names r es) ≡ false
    go true e = e
    go false e = h r e

first-less : (fault : Symbol Name → Fault Name) (t u : Symbol Name → Bool)
    → ((s : Symbol Name) → t s ≡ false → u s ≡ false) → (ss : Symbols) (x : Unit {0}) → refuse_first names fault t ss
    ≡ Ok x → refuse_first names fault u ss ≡ Ok x
first-less fault t u h [] x p = p
first-less fault t u h (s ∷ ss) x p = go (t s) (u s) (h s) p (first-less fault t u h ss x)
  where
    go : (a b : Bool) → (a ≡ false → b ≡ false) → cond a (Err (fault s)) (refuse_first names fault t ss) ≡ Ok x
        → (refuse_first names fault t ss ≡ Ok x → refuse_first names fault u ss ≡ Ok x)
        → cond b (Err (fault s)) (refuse_first names fault u ss) ≡ Ok x
    go true b f p r = absurd (cc)
    go false true f p r = absurd (let e : true ≡ false = f refl in cc)
    go false false f p r = r p

defined-less : (ss es ds : Symbols) → IsLess es ds → (x : Unit {0}) → refuse_defined names ds ss ≡ Ok x
    → refuse_defined names es ss ≡ Ok x
defined-less [] es ds h x p = p
defined-less (s ∷ ss) es ds h x p =
    go (is_among names s ds) (is_among names s es) (h s) p (defined-less ss (s ∷ es) (s ∷ ds) (less-more s es ds h) x)
  where
    go : (a b : Bool) → (a ≡ false → b ≡ false) → cond a (Err (AlreadyDefined s)) (refuse_defined names (s ∷ ds) ss)
        ≡ Ok x → (refuse_defined names (s ∷ ds) ss ≡ Ok x → refuse_defined names (s ∷ es) ss ≡ Ok x)
        → cond b (Err (AlreadyDefined s)) (refuse_defined names (s ∷ es) ss) ≡ Ok x
    go true b f p r = absurd (cc)
    go false true f p r = absurd (let e : true ≡ false = f refl in cc)
    go false false f p r = r p

module _ (es ds : List (Definition Name)) (part : IsPart es ds) where
  flat-part : (f : Definition Name → Symbols) → IsPart (flat_map f es) (flat_map f ds)
  flat-part f s m = let x = member-flat_map s f es m in flat_map-member s x.0 f ds (part x.0 x.1) x.2

  less-defined : IsLess (all_defined names es) (all_defined names ds)
  less-defined s = any-less (same_symbol names s) (all_defined names es) (all_defined names ds)
      (flat-part (defined names))

  less-used : (premise : Symbols) (s : Symbol Name)
      → (is_among names s premise || is_among names s (all_used names ds)) ≡ false
      → (is_among names s premise || is_among names s (all_used names es)) ≡ false
  less-used premise s p = go (is_among names s premise) p
    where
      go : (b : Bool) → (b || is_among names s (all_used names ds)) ≡ false
          → (b || is_among names s (all_used names es)) ≡ false
      go true e = e
      go false e = any-less (same_symbol names s) (all_used names es) (all_used names ds) (flat-part (used names)) e

  symbols-less : (premise symbols : Symbols) (x : Unit {0})
      → checked_symbols names (all_defined names ds) (all_used names ds) premise symbols ≡ Ok x
      → checked_symbols names (all_defined names es) (all_used names es) premise symbols ≡ Ok x
  symbols-less premise symbols x p =
      bind-under (refuse_first names Primitive (λ s. is_among names s (primitives names)) symbols) _ _ x
      (λ _ q. bind-first (refuse_defined names (all_defined names ds) symbols)
      (refuse_defined names (all_defined names es) symbols) _ x
      (defined-less symbols (all_defined names es) (all_defined names ds) less-defined)
      (bind-under (refuse_defined names (all_defined names ds) symbols) _ _ x
      (λ _ r. first-less SymbolInUse _ _ (less-used premise) symbols x r) q))
      p

  const-less : (n : Name) (t : Tm Name) (x : Definition Name) → const_definition names ds n t ≡ Ok x
      → const_definition names es n t ≡ Ok x
  const-less n t x p = bind-first (checked_const names (all_defined names ds) (all_used names ds) n t)
      (checked_const names (all_defined names es) (all_used names es) n t) _ x
      (λ u q. bind-first
      (checked_symbols names (all_defined names ds) (all_used names ds) (symbols_tm names t) (ConSymbol n ∷ []))
      (checked_symbols names (all_defined names es) (all_used names es) (symbols_tm names t) (ConSymbol n ∷ [])) _
      u
      (symbols-less (symbols_tm names t) (ConSymbol n ∷ [])) q) p

  list-less : (ns : List Name) (vs : List (Variable Name)) (q : Sequent Name) (x : Definition Name)
      → list_definition names ds ns vs q ≡ Ok x → list_definition names es ns vs q ≡ Ok x
  list-less ns vs q x p = bind-first (checked_list names (all_defined names ds) (all_used names ds) ns vs q)
      (checked_list names (all_defined names es) (all_used names es) ns vs q) _ x
      (λ u h. bind-under
      (unless BadDefinitionList
      (are_distinct names.same ns && are_distinct (same_var names) vs && (length q.hyps == length vs))) _ _ u
      (λ _ k. bind-under (some_or BadDefinitionList (terms_given names q.hyps vs)) _ _ u
      (λ ts l. bind-first
      (checked_symbols names (all_defined names ds) (all_used names ds) (symbols_of names q) (map ConSymbol ns))
      (checked_symbols names (all_defined names es) (all_used names es) (symbols_of names q) (map ConSymbol ns)) _
      u
      (symbols-less (symbols_of names q) (map ConSymbol ns)) l) k) h) p

  type-less : (n a r : Name) (vs : List Name) (q : Sequent Name) (x : Definition Name)
      → type_definition names ds n a r vs q ≡ Ok x → type_definition names es n a r vs q ≡ Ok x
  type-less n a r vs q x p = bind-first (checked_type names (all_defined names ds) (all_used names ds) n a r vs q)
      (checked_type names (all_defined names es) (all_used names es) n a r vs q) _ x
      (λ u h. bind-under (unless HypothesesPresent (is_empty q.hyps)) _ _ u
      (λ _ k. bind-under (some_or NotApplication (function_of q.concl)) _ _ u
      (λ f l. bind-under (unless BadTypeVars (are_distinct names.same vs && are_names_of names (vars_tm names f) vs))
      _ _ u
      (λ _ m. bind-first
      (checked_symbols names (all_defined names ds) (all_used names ds) (symbols_of names q)
      (OpSymbol n ∷ ConSymbol a ∷ ConSymbol r ∷ []))
      (checked_symbols names (all_defined names es) (all_used names es) (symbols_of names q)
      (OpSymbol n ∷ ConSymbol a ∷ ConSymbol r ∷ [])) _ u
      (symbols-less (symbols_of names q) (OpSymbol n ∷ ConSymbol a ∷ ConSymbol r ∷ [])) m) l) k) h) p

  by-less : (w : Cmd) (at : ℕ → Read) (x : Definition Name) → defined_by w ds at ≡ Ok x → defined_by w es at ≡ Ok x
  by-less words.DefineConst at x p =
      bind-under (at 0 >>= as_term) _ _ x (λ t q. bind-under (at 1 >>= as_name) _ _ x (λ n r. const-less n t x r) q) p
  by-less words.DefineConstList at x p =
      bind-under (at 0 >>= as_theorem) _ _ x
      (λ th q. bind-under (at 1 >>= as_list) _ _ x
      (λ os r. bind-under (pairs_of os) _ _ x
      (λ pairs s. list-less (map (λ p. p.0) pairs) (map (λ p. p.1) pairs) th x s) r) q) p
  by-less words.DefineTypeOp at x p =
      bind-under (at 0 >>= as_theorem) _ _ x (λ th q. bind-under (at 1 >>= as_list >>= as_each as_name) _ _ x
      (λ vs r. bind-under (at 2 >>= as_name) _ _ x (λ rep s. bind-under (at 3 >>= as_name) _ _ x (λ abs t.
      bind-under (at 4 >>= as_name) _ _ x (λ n u. type-less n abs rep vs th x u) t) s) r) q) p
  by-less _ at x p = absurd (cc)

  -- accepted after these, so after a part of them
  pub definition-less : (d : Origin Name) (x : Definition Name) → definition_of ds d ≡ Ok x
      → definition_of es d ≡ Ok x
  definition-less (Define w os) x p =
      bind-under (values os) _ _ x (λ vs q. bind-under (unless StackEmpty (length vs == definition_arity w)) _ _ x
      (λ _ r. by-less w (λ n. value_at n vs) x r) q) p
  definition-less _ x p = absurd (cc)
