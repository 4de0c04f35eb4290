pub mod HarmlessLemmas
