mod Accepted
