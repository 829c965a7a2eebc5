-- Trees with other names, by a function of names.
use Rattle.std.specs.Prelude.{map}
use Rattle.ot_logic.specs.Trees.{Ty, Tys, TyVar, TyOp, NoTys, MoreTys, Variable, Tm, Free, Con}
use Rattle.ot_logic.specs.Trees.{Bound, App, Abs, Named, NVar, NConst, NApp, NAbs, Sequent}
use Rattle.ot_logic.specs.Trees.{Symbol, ConSymbol, OpSymbol, Definition, ConDef, ListDef, TyDef}

module _ {M N : Type 0} (f : M → N) where
  abbrev mutual
    pub map_ty : Ty M → Ty N
    map_ty (TyVar n) = TyVar (f n)
    map_ty (TyOp n ts) = TyOp (f n) (map_tys ts)

    pub map_tys : Tys M → Tys N
    map_tys NoTys = NoTys
    map_tys (MoreTys t ts) = MoreTys (map_ty t) (map_tys ts)

  abbrev pub map_variable : Variable M → Variable N
  map_variable v = record { name = f v.name; ty = map_ty v.ty }

  abbrev pub map_tm : Tm M → Tm N
  map_tm (Free v) = Free (map_variable v)
  map_tm (Con n t) = Con (f n) (map_ty t)
  map_tm (Bound k) = Bound k
  map_tm (App g x) = App (map_tm g) (map_tm x)
  map_tm (Abs t b) = Abs (map_ty t) (map_tm b)

  abbrev pub map_named : Named M → Named N
  map_named (NVar v) = NVar (map_variable v)
  map_named (NConst n t) = NConst (f n) (map_ty t)
  map_named (NApp g x) = NApp (map_named g) (map_named x)
  map_named (NAbs v b) = NAbs (map_variable v) (map_named b)

  abbrev pub map_sequent : Sequent M → Sequent N
  map_sequent q = record { hyps = map map_tm q.hyps; concl = map_tm q.concl }

  abbrev pub map_symbol : Symbol M → Symbol N
  map_symbol (ConSymbol n) = ConSymbol (f n)
  map_symbol (OpSymbol n) = OpSymbol (f n)

  abbrev pub map_definition : Definition M → Definition N
  map_definition (ConDef n t) = ConDef (f n) (map_tm t)
  map_definition (ListDef ps q) = ListDef (map (λ p. (f p.0, map_variable p.1)) ps) (map_sequent q)
  map_definition (TyDef n abs rep vs q) = TyDef (f n) (f abs) (f rep) (map f vs) (map_sequent q)
