mod AnswerLemmas
