use Rattle.std.proofs.Common.{rules, map, ◌≡◌, ◌++◌, ◌∷◌, [], ◌∙◌, sym, ap, subst, refl, inl, reverse, length, arith}
use Rattle.std.specs.Prelude.{string_bytes}
use Rattle.std.specs.Str.{bytes_eq}
use Rattle.std.proofs.lemmas.Grind.{common_steps}
use Rattle.std.proofs.lemmas.List.{map-append}
use Rattle.std.proofs.lemmas.Result.{err_from_is_err_and}
use Rattle.ot_logic.specs.Lists.{IsMember}
use Rattle.ot_io.proofs.Keeping.{KeepsFiles-then}
use Rattle.ot_io.proofs.Readings.{Files-none, Files-map, Files-next}
use Rattle.ot_walk.specs.Walk.{walk_from}
use Rattle.ot_repo.specs.Required.{edges_of, walked}
use Rattle.ot_repo.specs.Answers.{ArePackages, names_of}
use Rattle.ot_blocks.specs.Paths.{package_path}
use Rattle.ot_repo.specs.Reading.{listed_in, IsReachedFile, edge_at, edges_left, mark_in, next_at}
use Rattle.ot_repo.specs.declared.requirements.File.{File}
use Rattle.ot_repo.proofs.Picking.{packages_more}
use Rattle.ot_walk.proofs.Rest.{rest_start}
use Rattle.ot_repo.proofs.SoFar.{SoFar, Rests}
use Rattle.ot_repo.proofs.Steps.{rests_known, rests_refused, rests_stopped, rests_new, rests_end, rests_done}
use Rattle.ot_repo.proofs.Steps.{edges_popped, empty, no_edges, pushed, carried, start_so_far, popped_listed, left_so_far}
use Rattle.ot_repo.proofs.Steps.{next_unmarked, opened, finished, smaller_opened, smaller_finished, walk_ends}
use Rattle.ot_repo.proofs.Reached.{ReachedSoFar, fails_more, inside_fails, next_reached}
use Rattle.ot_repo.proofs.Reached.{reached_left, reached_opened, reached_finished}
use Rattle.ot_repo.proofs.walk.walk.Goals as goal

pub walk-init : goal.walk-init
walk-init g c =
    let listed = listed_in c.args.index.now in
    rw (c.new-below.ensures.items, c.new-done.ensures.items)
    (record {
      so_far = start_so_far listed (mark_in c.new-marks.result) c.args.first
          (λ q. first_of (search rules, grind (arith, common_steps))) c.requires.first;
      walks = Files-none _ _ (λ folder. record {
        rests = record {
          bound = length listed;
          is = rest_start bytes_eq (edges_of folder c.args.setting.max_bytes c.args.setting.packages.now listed)
              (length listed) (edges_left c.args.first);
        };
        reached = record { here = λ e m. inl m; below = λ w m. absurd m };
      });
      full = λ full m. absurd m;
      kept = record { same_folder = refl; later = omega arith; later_misses = omega arith };
    })

pub returns-in_err-full-in-Some-clause-order : goal.returns-in_err-full-in-Some-clause-order
returns-in_err-full-in-Some-clause-order g c =
    let listed = listed_in c.args.index.now in
    let packages = c.args.setting.packages.now in
    let start = edges_left c.args.first in
    let marked = mark_in c.walk.marks in
    let r = c.in-Some.requirement in
    let left : File = record { path = c.walk.file.path; left = c.pop.new.self } in
    let edge = edge_at (string_bytes c.walk.file.path) r in
    let cut = edges_popped c.walk.file left r refl c.in-Some.ensures.items in
    let refused = rw c.deref.ensures at c.in_err-full-in-Some.ensures.next in
    let p = err_from_is_err_and c.from_residual.result c.from_residual.ensures.1 in
    rw (p.1, p.2)
    (Files-map _ _ _ (λ folder walks.
    let edges = edges_of folder c.args.setting.max_bytes packages listed in
    let whole = walk_from bytes_eq edges (length listed) start in
    record {
      gives = carried c.in_err-full-in-Some.field-0.0 (next_at marked edge) (walked whole)
          (λ fault next. rests_refused edges whole marked (reverse c.walk.below.items) c.walk.file left
          (names_of c.walk.done) c.walk.invariant.so_far.marks edge cut walks.rests fault next)
          refused;
      fails = inside_fails (IsReachedFile edges start packages) c.in_err-full-in-Some.field-0.0
          c.in_err-full-in-Some.ensures.inside;
    })
    c.walk.invariant.walks)

pub package_file-requires-clause-full : goal.package_file-requires-clause-full
package_file-requires-clause-full g c =
    let left : File = record { path = c.walk.file.path; left = c.pop.new.self } in
    let own = rw c.in-Some-2.is at c.in_ok-full-in-Some.ensures.own in
    c.requires.index.full c.in-Some-2.full.now
    (popped_listed (listed_in c.args.index.now) c.walk.file left c.in-Some.requirement c.in-Some.ensures.items
    c.walk.invariant.so_far.left c.in-Some-2.full own)

pub returns-in_err-above-in-Some-clause-order : goal.returns-in_err-above-in-Some-clause-order
returns-in_err-above-in-Some-clause-order g c =
    let listed = listed_in c.args.index.now in
    let packages = c.args.setting.packages.now in
    let start = edges_left c.args.first in
    let below = reverse c.walk.below.items in
    let marked = mark_in c.walk.marks in
    let r = c.in-Some.requirement in
    let full = c.in-Some-2.full in
    let left : File = record { path = c.walk.file.path; left = c.pop.new.self } in
    let edge = edge_at (string_bytes c.walk.file.path) r in
    let cut = edges_popped c.walk.file left r refl c.in-Some.ensures.items in
    let next = rw (c.deref.ensures, c.in-Some-2.is) at c.in_ok-full-in-Some.ensures.next in
    let p = err_from_is_err_and c.from_residual-in_err-above-in-Some.result
    c.from_residual-in_err-above-in-Some.ensures.1 in
    rw (p.1, p.2)
    (Files-next c.walk.invariant.kept c.walk.invariant.walks c.in_err-above-in-Some.ensures.edges
    (λ folder walks refused.
    let edges = edges_of folder c.args.setting.max_bytes packages listed in
    let whole = walk_from bytes_eq edges (length listed) start in
    let deep = walk_ends folder c.args.setting.max_bytes packages listed c.args.first c.requires.first in
    let reached = next_reached edges start marked below c.walk.file left edge full.now cut next walks.reached in
    record {
      gives = carried c.in_err-above-in-Some.field-0.0 (edges full.now) (walked whole)
          (λ fault are. rests_stopped edges whole marked below c.walk.file left (names_of c.walk.done)
          c.walk.invariant.so_far.marks edge cut deep full.now next walks.rests fault are)
          refused;
      fails = fails_more (λ failed. failed ≡ package_path packages full.now) (IsReachedFile edges start packages)
          c.in_err-above-in-Some.field-0.0
          (λ failed is. record { full = full.now; reached = reached; file_is = is })
          c.in_err-above-in-Some.ensures.failure;
    }))

pub walk-smaller-in-Some-2 : goal.walk-smaller-in-Some-2
walk-smaller-in-Some-2 g c =
    let r = c.in-Some.requirement in
    let full = c.in-Some-2.full in
    let left : File = record { path = c.walk.file.path; left = c.pop.new.self } in
    let edge = edge_at (string_bytes c.walk.file.path) r in
    let next = rw (c.deref.ensures, c.in-Some-2.is) at c.in_ok-full-in-Some.ensures.next in
    let own = rw c.in-Some-2.is at c.in_ok-full-in-Some.ensures.own in
    let above = c.in_ok-above-in-Some.above in
    rw (pushed c.push.new.self.items c.walk.below.items _ c.in_ok-push-in-Some.ensures.items)
    (smaller_opened (listed_in c.args.index.now) (mark_in c.walk.marks) (mark_in c.insert.new.self)
    (reverse c.walk.below.items) (names_of c.walk.done) (record { file = left; full = full })
    c.walk.file above r c.in-Some.ensures.items own (next_unmarked (mark_in c.walk.marks) edge full.now next)
    (λ q. c.in_ok-insert-in-Some.ensures.updates.0 (record { ref_ptr = (0, 0); now = q }))
    c.walk.invariant.so_far (omega (arith, above.left.ok.0, above.left.small)))

pub walk-preserved-in-Some-2 : goal.walk-preserved-in-Some-2
walk-preserved-in-Some-2 g c =
    let listed = listed_in c.args.index.now in
    let marked = mark_in c.walk.marks in
    let r = c.in-Some.requirement in
    let full = c.in-Some-2.full in
    let left : File = record { path = c.walk.file.path; left = c.pop.new.self } in
    let edge = edge_at (string_bytes c.walk.file.path) r in
    let cut = edges_popped c.walk.file left r refl c.in-Some.ensures.items in
    let next = rw (c.deref.ensures, c.in-Some-2.is) at c.in_ok-full-in-Some.ensures.next in
    let own = rw c.in-Some-2.is at c.in_ok-full-in-Some.ensures.own in
    let above = c.in_ok-above-in-Some.above in
    rw (pushed c.push.new.self.items c.walk.below.items _ c.in_ok-push-in-Some.ensures.items)
    (record {
      so_far = opened listed marked (mark_in c.insert.new.self) (reverse c.walk.below.items) (names_of c.walk.done)
          (record { file = left; full = full })
          c.walk.file above r c.in-Some.ensures.items own (next_unmarked marked edge full.now next)
          (λ q. c.in_ok-insert-in-Some.ensures.updates.0 (record { ref_ptr = (0, 0); now = q }))
          c.in_ok-above-in-Some.ensures.listed c.walk.invariant.so_far;
      walks = Files-next c.walk.invariant.kept c.walk.invariant.walks c.in_ok-above-in-Some.ensures.edges
          (λ folder walks are.
          let edges = edges_of folder c.args.setting.max_bytes c.args.setting.packages.now listed in
          let start = edges_left c.args.first in
          let below = reverse c.walk.below.items in
          record {
            rests = rests_new edges (walk_from bytes_eq edges (length listed) start) marked below c.walk.file left
                (names_of c.walk.done) c.walk.invariant.so_far.marks edge cut
                (walk_ends folder c.args.setting.max_bytes c.args.setting.packages.now listed c.args.first
                c.requires.first)
                full.now next walks.rests (record { file = left; full = full }) above refl are;
            reached = reached_opened edges start marked below c.walk.file above (record { file = left; full = full })
                edge full.now cut next are walks.reached;
          });
      full = c.walk.invariant.full;
      kept = KeepsFiles-then c.walk.invariant.kept c.in_ok-above-in-Some.ensures.kept;
    })

pub walk-preserved-in_default : goal.walk-preserved-in_default
walk-preserved-in_default g c =
    let listed = listed_in c.args.index.now in
    let marked = mark_in c.walk.marks in
    let r = c.in-Some.requirement in
    let left : File = record { path = c.walk.file.path; left = c.pop.new.self } in
    let edge = edge_at (string_bytes c.walk.file.path) r in
    let cut = edges_popped c.walk.file left r refl c.in-Some.ensures.items in
    let next = rw (c.deref.ensures, c.in_default.is) at c.in_ok-full-in-Some.ensures.next in
    record {
      so_far = left_so_far listed marked (reverse c.walk.below.items) c.walk.file left r (names_of c.walk.done)
          c.in-Some.ensures.items c.walk.invariant.so_far;
      walks = Files-map _ _ _ (λ folder walks.
          let edges = edges_of folder c.args.setting.max_bytes c.args.setting.packages.now listed in
          let start = edges_left c.args.first in
          let below = reverse c.walk.below.items in
          record {
            rests = rests_known edges (walk_from bytes_eq edges (length listed) start) marked below c.walk.file left
                (names_of c.walk.done) c.walk.invariant.so_far.marks edge cut walks.rests next;
            reached = reached_left edges start below c.walk.file left edge cut walks.reached;
          })
          c.walk.invariant.walks;
      full = c.walk.invariant.full;
      kept = c.walk.invariant.kept;
    }

pub name_text-requires : goal.name_text-requires
name_text-requires g c =
    let w = c.in-Some-pop.waiting in
    let stack = pushed c.walk.below.items c.pop-in-None.new.self.items w c.in-Some-pop.ensures.items in
    c.requires.index.full w.full.now
    (c.walk.invariant.so_far.levels w (subst (IsMember w) (sym stack) (inl refl))).full

pub walk-smaller : goal.walk-smaller
walk-smaller g c =
    let w = c.in-Some-pop.waiting in
    let stack = pushed c.walk.below.items c.pop-in-None.new.self.items w c.in-Some-pop.ensures.items in
    smaller_finished (listed_in c.args.index.now) (mark_in c.walk.marks) (mark_in c.insert-in-Some-pop.new.self)
    (reverse c.pop-in-None.new.self.items) (names_of c.walk.done) w
    c.walk.file (reverse c.walk.below.items) stack
    (λ q. c.in_ok-insert-in-Some-pop.ensures.updates.0 (record { ref_ptr = (0, 0); now = q }))

pub walk-preserved : goal.walk-preserved
walk-preserved g c =
    let listed = listed_in c.args.index.now in
    let w = c.in-Some-pop.waiting in
    let marked = mark_in c.walk.marks in
    let below = reverse c.pop-in-None.new.self.items in
    let stack = pushed c.walk.below.items c.pop-in-None.new.self.items w c.in-Some-pop.ensures.items in
    let empty : length c.walk.file.left.items ≡ 0 = omega (arith, c.walk.file.left.ok.0, c.in-None.ensures.cases.0) in
    let none = no_edges c.walk.file empty in
    let more : names_of c.push-in-Some-pop.new.self ≡ names_of c.walk.done ++ w.full.now ∷ [] =
    ap (map string_bytes) c.in_ok-push-in-Some-pop.ensures.items
    ∙ map-append string_bytes c.walk.done.items (c.in_ok-name_text-in-Some-pop.field-0 ∷ [])
    ∙ ap (λ z. names_of c.walk.done ++ z ∷ []) c.in_ok-name_text-in-Some-pop.ensures
    in
    record {
      so_far = subst (SoFar listed (mark_in c.insert-in-Some-pop.new.self) below w.file) (sym more)
          (finished listed marked (mark_in c.insert-in-Some-pop.new.self) below (names_of c.walk.done) w c.walk.file
          (λ q. c.in_ok-insert-in-Some-pop.ensures.updates.0 (record { ref_ptr = (0, 0); now = q }))
          (subst (λ ws. SoFar listed marked ws c.walk.file (names_of c.walk.done)) stack c.walk.invariant.so_far));
      walks = Files-map _ _ _ (λ folder walks.
          let edges = edges_of folder c.args.setting.max_bytes c.args.setting.packages.now listed in
          let start = edges_left c.args.first in
          let whole = walk_from bytes_eq edges (length listed) start in
          record {
            rests = subst (Rests edges whole below w.file) (sym more)
                (rests_end edges whole c.walk.file (names_of c.walk.done) none w below
                (subst (λ ws. Rests edges whole ws c.walk.file (names_of c.walk.done)) stack walks.rests));
            reached = reached_finished edges start below c.walk.file w
                (subst (λ ws. ReachedSoFar edges start ws c.walk.file) stack walks.reached);
          })
          c.walk.invariant.walks;
      full = subst ArePackages (sym more) (packages_more (names_of c.walk.done) w.full.now c.walk.invariant.full
          (c.requires.index.full w.full.now
          (c.walk.invariant.so_far.levels w (subst (IsMember w) (sym stack) (inl refl))).full));
      kept = c.walk.invariant.kept;
    }

pub returns-in-None-pop-clause-order : goal.returns-in-None-pop-clause-order
returns-in-None-pop-clause-order g c =
    let listed = listed_in c.args.index.now in
    let file = c.walk.file in
    let none = no_edges file (omega (arith, file.left.ok.0, c.in-None.ensures.cases.0)) in
    let last : reverse c.walk.below.items ≡ [] =
    ap reverse (empty c.walk.below.items (omega (arith, c.walk.below.ok.0, c.in-None-pop.ensures.cases.0))) in
    Files-map _ _ _ (λ folder walks.
    let edges = edges_of folder c.args.setting.max_bytes c.args.setting.packages.now listed in
    record {
      gives = rests_done edges (walk_from bytes_eq edges (length listed) (edges_left c.args.first)) file
          (names_of c.walk.done) none (reverse c.walk.below.items) last walks.rests;
      fails = tt;
    })
    c.walk.invariant.walks
