use Rattle.retos_cli.proofs.OneAnswer.{has_one_answer}
use Rattle.retos_cli.proofs.laws.words_have_one_answer.Goals as goal

pub returns : goal.returns
returns c command m =
    has_one_answer (record {
      verdict = c.one_verdict.ensures;
      answer = c.one_answer.ensures;
      text = c.one_object_has_a_text.ensures;
      no_fault = c.objects_have_no_fault.ensures;
      object = c.same_fields_same_object.ensures;
      marks = c.same_words_same_marks.ensures;
    }) command m
