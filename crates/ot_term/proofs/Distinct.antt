-- The tests of symbols and of variables, and lists of them without repetition.
use Rattle.std.specs.Prelude.{nat_eq}
use Rattle.std.specs.Bool.{Decides}
use Rattle.std.proofs.Common.{◌≡◌, Bool, refl, ap}
use Rattle.std.proofs.lemmas.Bool.Decides.{Decides-and, Decides-like, Decides-eqb}
use Rattle.ot_term.specs.declared.term.Symbol.{Symbol}
use Rattle.ot_term.specs.declared.term.SymbolKind.{SymbolKind}
use Rattle.ot_term.specs.declared.term.SymbolKind.TheVariants.{Con, TyOp}
use Rattle.ot_term.specs.declared.term.VarKey.{VarKey}
use Rattle.ot_term.specs.contracts.term.SymbolKindPartialEq.TheImpl as kinds
use Rattle.ot_term.specs.contracts.term.SymbolPartialEq.TheImpl as symbols
use Rattle.ot_term.specs.contracts.term.VarKeyPartialEq.TheImpl as keys
pub use Rattle.ot_term.proofs.Once.{distinct_members, distinct_once}

abbrev pub symbol_eq : Symbol → Symbol → Bool
symbol_eq = symbols.ghosts.eq

abbrev pub key_eq : VarKey → VarKey → Bool
key_eq = keys.ghosts.eq

kind-is : (a b : SymbolKind) → Decides (kinds.ghosts.eq a b) (a ≡ b)
kind-is Con Con = (λ h. refl, λ e. refl)
kind-is Con TyOp = (λ h. cc, λ e. cc)
kind-is TyOp Con = (λ h. cc, λ e. cc)
kind-is TyOp TyOp = (λ h. refl, λ e. refl)

pub symbol-is : (s r : Symbol) → Decides (symbol_eq s r) (s ≡ r)
symbol-is s r =
    Decides-like (symbol_eq s r) (λ p. λ i. record { kind = p.0 i; name = p.1 i })
    (λ e. (ap (λ x. x.kind) e, ap (λ x. x.name) e))
    (Decides-and (kinds.ghosts.eq s.kind r.kind) (nat_eq s.name r.name) (kind-is s.kind r.kind)
    (Decides-eqb s.name r.name))

pub key-is : (v w : VarKey) → Decides (key_eq v w) (v ≡ w)
key-is v w =
    Decides-like (key_eq v w) (λ p. λ i. record { name = p.0 i; ty = p.1 i })
    (λ e. (ap (λ x. x.name) e, ap (λ x. x.ty) e))
    (Decides-and (nat_eq v.name w.name) (nat_eq v.ty w.ty) (Decides-eqb v.name w.name) (Decides-eqb v.ty w.ty))
