-- `reply::parts::put_words_then` meets its contract: the bytes stand from the end of the words on. Assumes nothing.
use Rattle.std.proofs.Common.{refl, sym}
use Rattle.std.proofs.lemmas.List.Concat.{concat_is}
use Rattle.wire.proofs.Parts.{onto_over}
use Rattle.reply.proofs.parts.put_words_then.Goals as goal

pub returns-clause-out_after : goal.returns-clause-out_after
returns-clause-out_after c = rw (concat_is, sym c.as_flattened-front.ensures.value) (onto_over _ _ _ _ _ _ c.put_front.ensures c.put_at.ensures refl)
