-- Terms of sequents that are within the limit of a log: so are their parts and the types in them.
use Rattle.std.specs.Prelude.{nat_le}
use Rattle.std.proofs.Common.{◌≡◌, ℕ, ◌≤◌, true, ◌&&◌, List, [], ◌∷◌, ◌++◌, Some, sym, ap, ◌∙◌, arith}
use Rattle.std.proofs.lemmas.Bool.{and_parts}
use Rattle.std.proofs.lemmas.Bool.Decides.{nat_tests}
use Rattle.ot_logic.specs.Names.{Name}
use Rattle.ot_logic.specs.Naming.{names}
use Rattle.ot_logic.specs.Trees.{Ty, Tys, TyVar, TyOp, NoTys, MoreTys, Tm, Free, Con, Bound, App, Abs}
use Rattle.ot_logic.specs.Hol.{depth_ty, depth_all, depth_tm, type_in, fun_ty}
use Rattle.ot_laws.proofs.Tests.{tells_names}
use Rattle.ot_laws.proofs.Typing.{abs-some, applied-some}
use Rattle.ot_log_format.specs.Steps.{log_depth, is_within_type, has_types_within, is_within}
use Rattle.ot_log_records.specs.Entries.{Node, TypeNode, TermNode, type_parts}
use Rattle.ot_log_records.specs.Entries.{types_nodes, type_nodes, term_parts, term_nodes}
use Rattle.ot_log_records.proofs.Standing.{AreWithin}

pub within-append : (ns ms : List Node) → AreWithin ns → AreWithin ms → AreWithin (ns ++ ms)
within-append [] ms h k = k
within-append (n ∷ ns) ms h k = (h.0, within-append ns ms h.1 k)

fits : (m n : ℕ) → nat_le m n ≡ true → m ≤ n
fits m n h = grind (arith, nat_tests)

mutual
  type_parts-within : (t : Ty Name) → depth_ty names t ≤ log_depth → AreWithin (type_parts t)
  type_parts-within (TyVar n) h = tt
  type_parts-within (TyOp n ts) h = types-within ts (omega (arith, h))

  types-within : (ts : Tys Name) → depth_all names ts ≤ log_depth → AreWithin (types_nodes ts)
  types-within NoTys h = tt
  types-within (MoreTys t ts) h =
      let first : depth_ty names t ≤ log_depth = omega (arith, h) in
      within-append (type_nodes t) (types_nodes ts)
      (within-append (type_parts t) (TypeNode t ∷ []) (type_parts-within t first) (first, tt))
      (types-within ts (omega (arith, h)))

pub type-within : (t : Ty Name) → depth_ty names t ≤ log_depth → AreWithin (type_nodes t)
type-within t h = within-append (type_parts t) (TypeNode t ∷ []) (type_parts-within t h) (h, tt)

own : (t : Tm Name) → AreWithin (term_parts t) → depth_tm names t ≤ log_depth → AreWithin (term_nodes t)
own t parts h = within-append (term_parts t) (TermNode t ∷ []) parts (h, tt)

term_parts-within : (l : List (Ty Name)) (t : Tm Name) (ty : Ty Name) → type_in names l t ≡ Some ty
    → depth_tm names t ≤ log_depth
    → has_types_within names l t ≡ true → AreWithin (term_parts t)
term_parts-within l (Free v) ty e d h = type-within v.ty (fits (depth_ty names v.ty) log_depth h)
term_parts-within l (Con n t) ty e d h = type-within t (fits (depth_ty names t) log_depth h)
term_parts-within l (Bound k) ty e d h = tt
term_parts-within l (App f x) ty e d h =
    let (a, p, q) = applied-some names tells_names (type_in names l f) (type_in names l x) ty e in
    let r = and_parts (is_within_type names (type_in names l (App f x)))
    (has_types_within names l f && has_types_within names l x) h in
    let s = and_parts (has_types_within names l f) (has_types_within names l x) r.1 in
    let df : depth_tm names f ≤ log_depth = omega (arith, d) in
    let dx : depth_tm names x ≤ log_depth = omega (arith, d) in
    within-append (term_nodes f) (term_nodes x) (own f (term_parts-within l f (fun_ty names a ty) p df s.0) df)
    (own x (term_parts-within l x a q dx s.1) dx)
term_parts-within l (Abs t b) ty e d h =
    let (c, p, q) = abs-some names t (type_in names (t ∷ l) b) ty e in
    let r = and_parts (is_within_type names (type_in names l (Abs t b))) (has_types_within names (t ∷ l) b) h in
    let whole : nat_le (depth_ty names (fun_ty names t c)) log_depth ≡ true =
    sym (ap (is_within_type names) (e ∙ ap Some q)) ∙ r.0 in
    let bound = fits (depth_ty names (fun_ty names t c)) log_depth whole in
    let db : depth_tm names b ≤ log_depth = omega (arith, d) in
    within-append (type_nodes t) (term_nodes b) (type-within t (omega (arith, bound)))
    (own b (term_parts-within (t ∷ l) b c p db r.1) db)

-- a term of a sequent with its parts
pub term-within : (t : Tm Name) (ty : Ty Name) → type_in names [] t ≡ Some ty → is_within names t ≡ true
    → AreWithin (term_nodes t)
term-within t ty e h =
    let r = and_parts (nat_le (depth_tm names t) log_depth) (has_types_within names [] t) h in
    let d = fits (depth_tm names t) log_depth r.0 in
    own t (term_parts-within [] t ty e d r.1) d
