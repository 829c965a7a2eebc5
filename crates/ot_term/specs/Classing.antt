-- The class of a node by the classes of its parts.
use Rattle.std.specs.Prelude.{ℕ, ◌<◌, List, slice_index_or}
use Rattle.ot_logic.specs.Naming.{numbers}
use Rattle.ot_shape.specs.Shape.{Class, var_class, const_class, app_class, abs_class}
use Rattle.ot_lists.specs.Variables.{numbered, variable_by}
use Rattle.ot_class.specs.Class.{ClassTable, class_at, IsNumber}
use Rattle.ot_term.specs.declared.term.TermNode.{TermNode}
use Rattle.ot_term.specs.declared.term.TermNode.TheVariants as node
use Rattle.ot_term.specs.declared.table.Form.{Form}
use Rattle.ot_term.specs.declared.table.Form.TheVariants as form

-- the class of the i-th term, whose number is the i-th
abbrev pub form_at : ClassTable → List ℕ → ℕ → Class ℕ
form_at cs ks i = class_at cs (slice_index_or ks i 0)

-- a node with the numbers of its parts' classes, that of the i-th term being the i-th
abbrev pub form_with : List ℕ → TermNode → Form
form_with ks (node.Var v) = form.Var v
form_with ks (node.Const n t) = form.Const n t
form_with ks (node.App f x) = form.App (slice_index_or ks f 0) (slice_index_or ks x 0)
form_with ks (node.Abs v b) = form.Abs v (slice_index_or ks b 0)

-- its class
abbrev pub form_class : ClassTable → Form → Class ℕ
form_class cs (form.Var v) = var_class numbers (variable_by v.name v.ty)
form_class cs (form.Const n t) = const_class numbers n (numbered t)
form_class cs (form.App f x) = app_class numbers (class_at cs f) (class_at cs x)
form_class cs (form.Abs v b) = abs_class numbers (variable_by v.name v.ty) (class_at cs b)

-- its classes are of the table
abbrev pub IsFormBelow : ClassTable → Form → Type 0
IsFormBelow cs (form.Var v) = Unit {0}
IsFormBelow cs (form.Const n t) = Unit {0}
IsFormBelow cs (form.App f x) = IsNumber cs f × IsNumber cs x
IsFormBelow cs (form.Abs v b) = IsNumber cs b

-- the class of a node
abbrev pub form_of : ClassTable → List ℕ → TermNode → Class ℕ
form_of cs ks n = form_class cs (form_with ks n)

-- the node's parts are below k
abbrev pub PartsBelow : ℕ → TermNode → Type 0
PartsBelow k (node.Var v) = Unit {0}
PartsBelow k (node.Const n t) = Unit {0}
PartsBelow k (node.App f x) = (f < k) × (x < k)
PartsBelow k (node.Abs v b) = b < k
