pub mod DialogueLemmas
