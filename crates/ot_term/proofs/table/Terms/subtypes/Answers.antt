use Rattle.std.proofs.Common.{◌<◌, ◌++◌, ◌∷◌, [], arith, ap, subst, sym, length}
use Rattle.ot_logic.specs.Lists.{IsMember}
use Rattle.ot_type.specs.TypeTable.{type_at}
use Rattle.ot_type.specs.Subtypes.{IsSubtype}
use Rattle.ot_type.proofs.SubtypeLemmas.{above, above-le, above-last}
use Rattle.ot_term.specs.Walk.{IsInsideSome}
use Rattle.ot_term.proofs.Walking.{IsSearch, search_step, search_end, all_below, no_more}
use Rattle.ot_term.proofs.Gathering.{subtypes_start, inside_closed}
use Rattle.ot_term.proofs.table.Terms.subtypes.Goals as goal
use Rattle.ot_logic.proofs.Members.{IsMember-last, All-at_member}

pub loop-next-init : goal.loop-next-init
loop-next-init c = rw c.new-found.ensures.items
    (subtypes_start c.args.self.now.types c.args.pending.keys
    (λ k m. All-at_member (λ i. i < length c.args.self.now.types) c.args.pending.keys k c.requires m))

pub add_arguments-requires : goal.add_arguments-requires
add_arguments-requires c =
    (c.loop-next.invariant.each_pending c.in-Some.next
    (subst (IsMember c.in-Some.next) (sym c.in-Some.ensures.removal)
    (IsMember-last c.in-Some.next c.pop_last.new.self.keys))).0

-- the search, with the number that is taken
taken : (c : goal.In_ok-push) → IsSearch (type_at c.args.self.now.types) IsSubtype (length c.args.self.now.types)
    (IsInsideSome (type_at c.args.self.now.types) IsSubtype c.args.pending.keys) c.loop-next.found.items
    (c.pop_last.new.self.keys ++ c.in-Some.next ∷ [])
taken c =
    subst (IsSearch (type_at c.args.self.now.types) IsSubtype (length c.args.self.now.types)
    (IsInsideSome (type_at c.args.self.now.types) IsSubtype c.args.pending.keys) c.loop-next.found.items)
    c.in-Some.ensures.removal c.loop-next.invariant

pub loop-next-smaller : goal.loop-next-smaller
loop-next-smaller c =
    let below = all_below _ _ _ _ _ _ _ _ (taken c) c.in-Some.ensures.all_below c.in_ok-add_arguments.ensures in
    omega (
      arith,
      above-le c.add_arguments.new.pending.keys c.in-Some.next below,
      above-last c.pop_last.new.self.keys
          c.in-Some.next,
      ap above c.in-Some.ensures.removal,
    )

pub loop-next-preserved : goal.loop-next-preserved
loop-next-preserved c =
    rw c.in_ok-push.ensures.items
    (search_step _ _ _ _ _ _ _ _ (taken c) c.in-Some.ensures.all_below c.in_ok-add_arguments.ensures
    (inside_closed c.args.self.now.types c.args.pending.keys))

pub returns : goal.returns
returns c =
    let IsNow = IsSearch (type_at c.args.self.now.types) IsSubtype (length c.args.self.now.types)
    (IsInsideSome (type_at c.args.self.now.types) IsSubtype c.args.pending.keys) c.loop-next.found.items in
    search_end (type_at c.args.self.now.types) IsSubtype (length c.args.self.now.types)
    (IsInsideSome (type_at c.args.self.now.types) IsSubtype c.args.pending.keys) c.loop-next.found.items
    (subst IsNow (no_more c.loop-next.pending.keys c.in_default.ensures.variant.1) c.loop-next.invariant)
