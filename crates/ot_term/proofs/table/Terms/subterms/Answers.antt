use Rattle.std.proofs.Common.{◌++◌, ◌∷◌, [], arith, ap, subst, sym, length}
use Rattle.ot_logic.specs.Lists.{IsMember}
use Rattle.ot_type.proofs.SubtypeLemmas.{above, above-le, above-last}
use Rattle.ot_term.specs.TermTable.{term_at}
use Rattle.ot_term.specs.Gather.{IsSubterm}
use Rattle.ot_term.proofs.Walking.{IsSearch, search_step, search_end, all_below, no_more}
use Rattle.ot_term.proofs.Gathering.{subterms_start, IsSubterm-trans}
use Rattle.ot_term.proofs.table.Terms.subterms.Goals as goal
use Rattle.ot_logic.proofs.Members.{IsMember-last}

pub loop-next-init : goal.loop-next-init
loop-next-init c = rw (c.new-found.ensures.items, c.in_ok-insert.ensures.keys, c.new-pending.ensures.empty)
    (subterms_start c.args.self.now.terms c.args.id c.requires)

pub add_parts-requires : goal.add_parts-requires
add_parts-requires c =
    (c.loop-next.invariant.each_pending c.in-Some.next
    (subst (IsMember c.in-Some.next) (sym c.in-Some.ensures.removal)
    (IsMember-last c.in-Some.next c.pop_last.new.self.keys))).0

-- the search, with the number that is taken
taken : (c : goal.In_ok-push) → IsSearch (term_at c.args.self.now.terms) IsSubterm (length c.args.self.now.terms)
    (λ u. IsSubterm u (term_at c.args.self.now.terms c.args.id)) c.loop-next.found.items
    (c.pop_last.new.self.keys ++ c.in-Some.next ∷ [])
taken c =
    subst (IsSearch (term_at c.args.self.now.terms) IsSubterm (length c.args.self.now.terms)
    (λ u. IsSubterm u (term_at c.args.self.now.terms c.args.id)) c.loop-next.found.items) c.in-Some.ensures.removal
    c.loop-next.invariant

pub loop-next-smaller : goal.loop-next-smaller
loop-next-smaller c =
    let below = all_below _ _ _ _ _ _ _ _ (taken c) c.in-Some.ensures.all_below c.in_ok-add_parts.ensures in
    omega (
      arith,
      above-le c.add_parts.new.pending.keys c.in-Some.next below,
      above-last c.pop_last.new.self.keys
          c.in-Some.next,
      ap above c.in-Some.ensures.removal,
    )

pub loop-next-preserved : goal.loop-next-preserved
loop-next-preserved c =
    rw c.in_ok-push.ensures.items
    (search_step _ _ _ _ _ _ _ _ (taken c) c.in-Some.ensures.all_below c.in_ok-add_parts.ensures
    (λ u v. IsSubterm-trans (term_at c.args.self.now.terms c.args.id) u v))

pub returns : goal.returns
returns c =
    let IsNow = IsSearch (term_at c.args.self.now.terms) IsSubterm (length c.args.self.now.terms)
    (λ u. IsSubterm u (term_at c.args.self.now.terms c.args.id)) c.loop-next.found.items in
    search_end (term_at c.args.self.now.terms) IsSubterm (length c.args.self.now.terms)
    (λ u. IsSubterm u (term_at c.args.self.now.terms c.args.id)) c.loop-next.found.items
    (subst IsNow (no_more c.loop-next.pending.keys c.in_default.ensures.variant.1) c.loop-next.invariant)
