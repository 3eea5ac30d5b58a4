use Rattle.std.proofs.Common.{◌≡◌, ◌<◌, ℕ, length, fold, vec_len, slice_index_or, ap, arith}
use Rattle.std.specs.Result.{IfOk}
use Rattle.std.proofs.lemmas.Result.{IfOk-at_ok, IfOk-weaker}
use Rattle.shadow_mirror.specs.Documents.{doc}
use Rattle.mirror_run.specs.Answers.{IsText, published}
use Rattle.mirror_run.specs.Noted.{after, noted_of}
use Rattle.mirror_run.proofs.Called.{same_text, still_theirs}
use Rattle.mirror_run.proofs.Notes.{all_published}
use Rattle.mirror_run.proofs.call.mirrored.Goals as goal

pub text_behind-requires : goal.text_behind-requires
text_behind-requires g c =
    let all = c.in_ok-all.field-0 in
    let before = c.args.readers in
    let many : vec_len all ≡ vec_len before = IfOk-at_ok (λ (v : _). vec_len v ≡ vec_len before) c.in_ok-all.was c.run-written.ensures.count in
    still_theirs c.args.writer.now.published.book c.run-written.new.writer.published.book before.items all.items c.run-written.ensures.book (omega (arith, many, all.ok.0, before.ok.0)) c.requires.readers
    (λ i d e within. IfOk-at_ok
    (λ (v : _). (k : ℕ) (x : _) (y : _) → k < vec_len before → IfOk (slice_index_or v.items k x) (λ r. r.book ≡ (slice_index_or before.items k y).book))
    c.in_ok-all.was c.run-written.ensures.readers i d e (omega (arith, within, before.ok.0)))

pub returns : goal.returns
returns g c =
    let all = c.in_ok-all.field-0 in
    let before = c.args.readers in
    let many : vec_len all ≡ vec_len before = IfOk-at_ok (λ (v : _). vec_len v ≡ vec_len before) c.in_ok-all.was c.run-written.ensures.count in
    let steps : noted_of c.run-written.new.writer ≡ fold after (noted_of c.args.writer.now) c.into_vec.result.items =
    IfOk-at_ok (λ u. noted_of c.run-written.new.writer ≡ fold after (noted_of c.args.writer.now) c.into_vec.result.items) c.in_ok-written.was c.run-written.ensures.steps in
    let all_of : c.run-written.new.writer.published.changes ≡ published c.args.steps =
    all_published c.args.writer.now c.run-written.new.writer c.args.steps c.into_vec.result.items c.requires.fresh c.into_vec.ensures steps in
    IfOk-weaker c.text_behind.result (λ page. IsText (length all.items) c.args.reads (doc c.run-written.new.writer.published.changes) page) (λ page. IsText (length before.items) c.args.reads (doc (published c.args.steps)) page)
    (λ page h. same_text (length all.items) (length before.items) c.args.reads (doc c.run-written.new.writer.published.changes) (doc (published c.args.steps)) page (omega (arith, many, all.ok.0, before.ok.0)) (ap doc all_of) h)
    c.text_behind.ensures
