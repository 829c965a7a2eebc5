-- Which symbols are hidden.
use Rattle.std.specs.Prelude.{◌≡◌, Bool, true, false, cond, [], ◌∷◌, ◌++◌, ◌&&◌, List, map}
use Rattle.std.specs.List.{list_all, list_any}
use Rattle.std.proofs.Common.{refl, sym, ◌∙◌, ap}
use Rattle.std.proofs.lemmas.List.{map-append}
use Rattle.ot_logic.specs.Names.{Name, same_name}
use Rattle.ot_logic.specs.Trees.{Symbol}
use Rattle.ot_forms.specs.Words.{namespace, same_kind, symbol_name, is_shown, is_short, is_hidden_in}
use Rattle.ot_parse.specs.declared.notation.WordKind.{WordKind}
use Rattle.ot_parse.specs.declared.notation.WordKind.TheVariants as kinds
use Rattle.ot_parse.specs.Bases.{is_no_rival}
use Rattle.ot_parse.specs.Symbols.{symbol_of, kind_test, with_passing}

pub name-of : (k : WordKind) (n : Name) → symbol_name (symbol_of (k, n)) ≡ n
name-of kinds.Con n = refl
name-of kinds.TyOp n = refl

pub kind-of : (k l : WordKind) (n m : Name) → same_kind (symbol_of (k, n)) (symbol_of (l, m)) ≡ kind_test k l
kind-of kinds.Con kinds.Con n m = refl
kind-of kinds.Con kinds.TyOp n m = refl
kind-of kinds.TyOp kinds.Con n m = refl
kind-of kinds.TyOp kinds.TyOp n m = refl

module _ (shown : List Name) (k : WordKind) (n : Name) where
  shown-is : is_shown shown (symbol_of (k, n)) ≡ list_any (same_name (namespace n)) shown
  shown-is = ap (λ z. list_any (same_name (namespace z)) shown) (name-of k n)

  module _ (ss : List (Symbol Name)) where
    abbrev alone : Bool
    alone = list_all (is_no_rival shown (symbol_of (k, n))) ss

    parts : is_hidden_in shown ss (symbol_of (k, n))
        ≡ (list_any (same_name (namespace n)) shown && (is_short (symbol_of (k, n)) && alone))
    parts = λ i. shown-is i && (is_short (symbol_of (k, n)) && alone)

    and-false : (e : Bool) → false ≡ (e && false)
    and-false true = refl
    and-false false = refl

    pub not-shown : list_any (same_name (namespace n)) shown ≡ false
        → false ≡ is_hidden_in shown ss (symbol_of (k, n))
    not-shown h = ap (λ e. e && (is_short (symbol_of (k, n)) && alone)) (sym h) ∙ sym parts

    pub not-short : is_short (symbol_of (k, n)) ≡ false → false ≡ is_hidden_in shown ss (symbol_of (k, n))
    not-short h = and-false (list_any (same_name (namespace n)) shown)
        ∙ ap (λ e. list_any (same_name (namespace n)) shown && (e && alone)) (sym h) ∙ sym parts

    pub if-alone : list_any (same_name (namespace n)) shown ≡ true → is_short (symbol_of (k, n)) ≡ true
        → alone ≡ is_hidden_in shown ss (symbol_of (k, n))
    if-alone h g = (λ i. sym h i && (sym g i && alone)) ∙ sym parts

-- ---- a symbol more
pub fails : (p : Symbol Name → Bool) (s : Symbol Name) (ss : List (Symbol Name)) → p s ≡ false
    → ss ≡ with_passing p s ss
fails p s ss h = ap (λ e. cond e (ss ++ s ∷ []) ss) (sym h)

pub passes : (p : Symbol Name → Bool) (s : WordKind × Name) (hs gs : List (WordKind × Name)) (v : WordKind × Name)
    → p (symbol_of s) ≡ true → v ≡ s → gs ≡ hs ++ v ∷ []
    → map symbol_of gs ≡ with_passing p (symbol_of s) (map symbol_of hs)
passes p s hs gs v h e q =
    ap (map symbol_of) q ∙ map-append symbol_of hs (v ∷ []) ∙ ap (λ z. map symbol_of hs ++ symbol_of z ∷ []) e
    ∙ ap (λ z. cond z (map symbol_of hs ++ symbol_of s ∷ []) (map symbol_of hs)) (sym h)
