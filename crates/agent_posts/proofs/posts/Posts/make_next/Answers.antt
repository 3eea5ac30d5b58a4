use Rattle.std.proofs.Common.{rules, ◌≡◌, length, subst, sym, ap, ◌∙◌, arith}
use Rattle.std.specs.Vec.{vec_len}
use Rattle.agent_posts.specs.Waiting.{NoneWaits, WaitsAlike, IsTold}
use Rattle.agent_posts.specs.Mail.{Mail, IsPosted}
use Rattle.agent_posts.proofs.Handing.{on_err, moved_told, moved_end, made_next}
use Rattle.agent_posts.proofs.posts.Posts.make_next.Goals as goal

pub returns-in_err-made-in-Some-clause-err : goal.returns-in_err-made-in-Some-clause-err
returns-in_err-made-in-Some-clause-err g c =
    let size : vec_len c.self.inside.posts ≡ length c.self.inside.posts.items = search rules in
    let alike : WaitsAlike (length c.self.inside.posts.items) c.args.entries.now c.self.inside.place c.in-Some.place =
    subst (λ n. WaitsAlike n c.args.entries.now c.self.inside.place c.in-Some.place) (c.len.ensures ∙ size) c.in-Some.ensures.none_between in
    let is : IsTold (length c.self.inside.posts.items) c.args.entries.now c.in-Some.place c.in-Some.task =
    subst (λ n. IsTold n c.args.entries.now c.in-Some.place c.in-Some.task) (c.len.ensures ∙ size) c.in-Some.ensures.told in
    on_err c.from_residual.result
    (λ h. moved_told c.args.entries.now c.self.inside.posts.items c.self.inside.place c.in-Some.place _ c.in-Some.task alike is (subst (λ m. IsPosted c.args.entries.now m) (sym c.self.view_is) h))

pub overflow_add-self : goal.overflow_add-self
overflow_add-self g c = let short = c.in-Some.ensures.short in omega (arith, short)

pub returns-in_ok-made-in-Some-clause-made : goal.returns-in_ok-made-in-Some-clause-made
returns-in_ok-made-in-Some-clause-made g c h =
    let size : vec_len c.self.inside.posts ≡ length c.self.inside.posts.items = search rules in
    let alike : WaitsAlike (length c.self.inside.posts.items) c.args.entries.now c.self.inside.place c.in-Some.place =
    subst (λ n. WaitsAlike n c.args.entries.now c.self.inside.place c.in-Some.place) (c.len.ensures ∙ size) c.in-Some.ensures.none_between in
    let is : IsTold (length c.self.inside.posts.items) c.args.entries.now c.in-Some.place c.in-Some.task =
    subst (λ n. IsTold n c.args.entries.now c.in-Some.place c.in-Some.task) (c.len.ensures ∙ size) c.in-Some.ensures.told in
    made_next c.args.entries.now c.self.inside.posts.items c.self.inside.place c.in-Some.place _ c.in-Some.task c.in_ok-made-in-Some.made (ap (λ (m : Mail). m.next) c.self.view_is ∙ c.requires.none_held)
    alike is c.in_ok-made-in-Some.ensures.made (subst (λ m. IsPosted c.args.entries.now m) (sym c.self.view_is) h)

pub returns-in-None-clause-made : goal.returns-in-None-clause-made
returns-in-None-clause-made g c h =
    let size : vec_len c.self.inside.posts ≡ length c.self.inside.posts.items = search rules in
    let none : NoneWaits (length c.self.inside.posts.items) c.args.entries.now c.self.inside.place =
    subst (λ n. NoneWaits n c.args.entries.now c.self.inside.place) (c.len.ensures ∙ size) c.in-None.ensures.none in
    let e = ap (λ (m : Mail). m.next) c.self.view_is ∙ c.requires.none_held in
    subst (λ next. IsPosted c.args.entries.now (record { putters = c.self.inside.posts.items; place = record { entry = length c.args.entries.now; effects = 0 }; next = next })) e
    (moved_end c.args.entries.now c.self.inside.posts.items c.self.inside.place _ none (subst (λ m. IsPosted c.args.entries.now m) (sym c.self.view_is) h))
